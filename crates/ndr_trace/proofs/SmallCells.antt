-- The cells that the steps of deferral name: they are numbered in 32 bits, are cells of the graph, and full pointers' numbers name those of full pointers.
-- `w` is a setting, `g` a graph, `p` is a pointer, `c` a cell, `us` are steps, `ms` entries.
use Rattle.std.proofs.Common.{◌≡◌, ◌⊎◌, inl, inr, ◌∙◌, ℕ, zero, suc, ◌+◌, ◌<◌, ◌≤◌, ◌^◌, true, false, List, [], ◌∷◌, ◌++◌, length, Option, Some, None, refl, sym, ap, ap₂, subst, append_assoc, arith}
use Rattle.std.proofs.Common.{flat_map, map, Bool}
use Rattle.std.specs.List.{AllByRecursion, slice_get}
use Rattle.std.proofs.lemmas.Bool.{ltb-true}
use Rattle.std.proofs.lemmas.Grind.{flat_map-append}
use Rattle.std.proofs.lemmas.Option.{same_Some, slice_get_within}
use Rattle.nd_types.specs.declared.types.Class.{Class}
use Rattle.nd_types.specs.declared.types.Class.TheVariants.{Full, Ref, Unique}
use Rattle.nd_types.specs.declared.types.TypeDef.{TypeDef}
use Rattle.nd_types.specs.declared.types.TypeDef.TheVariants as def
use Rattle.nd_types.specs.declared.types.TypeId.{TypeId}
use Rattle.nd_types.specs.Roots.{Root}
use Rattle.nd_types.specs.Table.{Table, type_at}
use Rattle.nd_value.specs.declared.item.Home.{Home}
use Rattle.nd_value.specs.declared.item.Home.TheVariants as home
use Rattle.nd_value.specs.declared.value.Graph.{Graph}
use Rattle.nd_value.specs.Agreement.{Agreement, root_agreements}
use Rattle.nd_value.specs.Deferral.{Deferral, Due, Pending as Pointer, Placed_cells, Standing, Step, at_null, at_referent, at_root, at_standing, direct, due_of, due_referent, due_root, home_pointers}
use Rattle.nd_value.specs.Deferral.{none_due, pointer, pointer_by, referent_stands, root_stands, root_type, standing_by, standing_cell, standing_root, stands_already}
use Rattle.nd_value.specs.Conforms.{all_nodes, all_pointers, cell_nodes, cell_pointers, in_home, root_nodes, root_pointers}
use Rattle.nd_value.specs.Misfit.{has_machine_values}
use Rattle.nd_value.specs.Nodes.{TypedNode, child_agreements, child_types, first_agreements, nodes_of, rest_agreements}
use Rattle.nd_value.specs.Setting.{Among, Setting, cell_at, cell_home, cell_of_number, root_at, root_list}
use Rattle.nd_value.specs.Tree as tree
use Rattle.nd_value.specs.Tree.{Label, Referent, Tree, Trees, cell_in, is_pointer, more, node, node_count, none}
use Rattle.nd_value.proofs.Apart.{all_append, all_among, all_left, all_map, all_right, among_left, among_right}
use Rattle.nd_value.proofs.NodeFacts.{IsSound}
use Rattle.nd_grammar.specs.Entry.{Entry, Kind, Number, full_cell, full_cells, whole_value}
use Rattle.nd_grammar.specs.Stream.{step_entries, step_tests}
use Rattle.nd_grammar.proofs.next.PointerPlaces.{in_cell, in_standing}
use Rattle.nd_grammar.proofs.Placed.{among_split}
use Rattle.nd_grammar.proofs.next.StreamPointers.{is_good}
use Rattle.ndr_trace_value.specs.Untested.{is_test, kept_if, untested}
use Rattle.ndr_trace.specs.Homes.{direct_names, names_all, standing_names, step_names}
use Rattle.ndr_trace_value.specs.Naming.{named_by, names_in, names_of}
use Rattle.ndr_trace.proofs.CellsInTurn.{KnownDirect, Mine, direct_mine, mine_more, standing_is}
use Rattle.ndr_trace.proofs.HomeNames.{home_names}

-- ## Numbers of 32 bits

abbrev pub Small : Pointer → Type 0
Small p = (c : ℕ) → p.cell ≡ Some c → c < 2 ^ 32

module _ (w : Setting) (g : Graph) (s : IsSound w g) where
  small_at : (d : Option TypeDef) (l : Label) (h : Home) (n : ℕ) (ags : List Agreement) → has_machine_values l ≡ true
      → AllByRecursion Small (pointer_by d (is_pointer l) (cell_in l) h n ags)
  small_at (Some (def.Pointer k to)) (tree.Ptr None) h n ags a = ((λ c e. cc), tt)
  small_at (Some (def.Pointer k to)) (tree.Ptr (Some b)) h n ags a =
      let l = ltb-true b (2 ^ 32) a in
      ((λ c e. (let f = same_Some _ _ e in omega (arith, l, f))), tt)
  small_at (Some (def.Pointer k to)) _ h n ags a = tt
  small_at _ l h n ags a = tt

  small_nodes : (h : Home) (types : List ℕ) (ags ags' : List (List Agreement)) (n : ℕ) (ts : Trees)
      → AllByRecursion (λ x. has_machine_values x.label ≡ true) (nodes_of w.table types ags n ts)
      → AllByRecursion Small (flat_map (pointer w.table h) (nodes_of w.table types ags' n ts))
  small_nodes h types ags ags' n none a = tt
  small_nodes h [] ags ags' n (more t ts) a = tt
  small_nodes h (t ∷ types) ags ags' n (more (node l ks) ts) a =
      let d : Option TypeDef = type_at w.table t in
      let kids : List TypedNode = nodes_of w.table (child_types d l ks) (child_agreements d ks) (n + 1) ks in
      let rest : List TypedNode = nodes_of w.table types (rest_agreements ags) (n + 1 + node_count ks) ts in
      let rest' : List TypedNode = nodes_of w.table types (rest_agreements ags') (n + 1 + node_count ks) ts in
      all_append Small (pointer_by d (is_pointer l) (cell_in l) h n (first_agreements ags')) _ (small_at d l h n (first_agreements ags') a.0)
      (subst (AllByRecursion Small) (sym (flat_map-append (pointer w.table h) kids rest'))
      (all_append Small (flat_map (pointer w.table h) kids) (flat_map (pointer w.table h) rest')
      (small_nodes h (child_types d l ks) (child_agreements d ks) (child_agreements d ks) (n + 1) ks (all_left _ kids rest a.1))
      (small_nodes h types (rest_agreements ags) (rest_agreements ags') (n + 1 + node_count ks) ts (all_right _ kids rest a.1))))

  small_roots : (n : ℕ) (rs : List Root) (vs : List Tree) → AllByRecursion (λ x. has_machine_values x.typed.label ≡ true) (root_nodes w g n rs vs)
      → AllByRecursion Small (root_pointers w.table n rs vs)
  small_roots n [] vs a = tt
  small_roots n (r ∷ rs) [] a = tt
  small_roots n (r ∷ rs) (v ∷ vs) a =
      all_append Small (home_pointers w.table (home.Root n) r.of v) (root_pointers w.table (n + 1) rs vs)
      (small_nodes (home.Root n) (r.of ∷ []) (root_agreements w g r.vars ∷ []) [] 0 (more v none)
      (all_map (λ x. has_machine_values x.typed.label ≡ true) (in_home (home.Root n)) _ (all_left _ _ (root_nodes w g (n + 1) rs vs) a)))
      (small_roots (n + 1) rs vs (all_right _ _ (root_nodes w g (n + 1) rs vs) a))

  small_cells : (n : ℕ) (xs : List Referent) → AllByRecursion (λ x. has_machine_values x.typed.label ≡ true) (cell_nodes w.table n xs)
      → AllByRecursion Small (cell_pointers w.table n xs)
  small_cells n [] a = tt
  small_cells n (x ∷ xs) a =
      all_append Small (home_pointers w.table (cell_home n) x.of x.val) (cell_pointers w.table (n + 1) xs)
      (small_nodes (cell_home n) (x.of ∷ []) [] [] 0 (more x.val none)
      (all_map (λ x. has_machine_values x.typed.label ≡ true) (in_home (cell_home n)) _ (all_left _ _ (cell_nodes w.table (n + 1) xs) a)))
      (small_cells (n + 1) xs (all_right _ _ (cell_nodes w.table (n + 1) xs) a))

  pub small : (p : Pointer) → Among (all_pointers w g) p → Small p
  small p a =
      all_among Small (all_pointers w g) p a
      (all_append Small (root_pointers w.table 0 (root_list w) g.roots) (cell_pointers w.table 1 g.cells)
      (small_roots 0 (root_list w) g.roots (all_left _ (root_nodes w g 0 (root_list w) g.roots) (cell_nodes w.table 1 g.cells) s.machine_values))
      (small_cells 1 g.cells (all_right _ (root_nodes w g 0 (root_list w) g.roots) (cell_nodes w.table 1 g.cells) s.machine_values)))

  -- ## Whatever holds of the pointers of a graph

  names_have : (P : Class × ℕ → Type 0) → ((p : Pointer) → Among (all_pointers w g) p → (c : ℕ) → p.cell ≡ Some c → P (p.class, c)) → (ps : List Pointer)
      → ((p : Pointer) → Among ps p → Among (all_pointers w g) p) → AllByRecursion P (names_all ps)
  names_have P f [] mine = tt
  names_have P f (p ∷ ps) mine =
      all_append P (names_of p.class p.cell) (names_all ps) (one p.cell refl (mine p (inl refl))) (names_have P f ps (λ q a. mine q (inr a)))
    where
      one : (o : Option ℕ) → p.cell ≡ o → Among (all_pointers w g) p → AllByRecursion P (names_of p.class o)
      one None e a = tt
      one (Some c) e a = (f p a c e, tt)

  module _ (known : KnownDirect w g s) (P : Class × ℕ → Type 0) (f : (p : Pointer) → Among (all_pointers w g) p → (c : ℕ) → p.cell ≡ Some c → P (p.class, c)) where
    pub steps_have : {done : Placed_cells} {due : List Due} {us : List Step} → Deferral w g done due us → AllByRecursion (Mine w g s) due → AllByRecursion P (flat_map (step_names w g) us)
    steps_have none_due a = tt
    steps_have (at_null e d) a = steps_have d a.1
    steps_have (at_standing c e k h d) a = steps_have d a.1
    steps_have (at_referent {p = p} {due = due} {steps = us} c e new d) a =
        let inside = in_cell w g c p.to ((is_good w g s p a.0).typed c e) in
        all_append P (standing_names w (standing_cell g p c)) (flat_map (step_names w g) us)
        (names_have P f (home_pointers w.table (cell_home c) p.to (cell_at g c)) inside)
        (steps_have d (mine_more w g s (home_pointers w.table (cell_home c) p.to (cell_at g c)) due inside a.1))
    steps_have (at_root {i = i} {due = due} {steps = us} free d) a =
        let x : Standing = standing_root w g i in
        let inside = in_standing w g s i a.0.0 a.0.1 in
        all_append P (direct_names x.home ++ standing_names w x) (flat_map (step_names w g) us)
        (all_append P (direct_names x.home) (standing_names w x) (its_direct i a.0.0 a.0.1) (names_have P f (home_pointers w.table x.home x.of x.val) inside))
        (steps_have d (mine_more w g s (home_pointers w.table x.home x.of x.val) due inside a.1))
      where
        its_direct : (i : ℕ) (r : Root) → slice_get (root_list w) i ≡ Some r → AllByRecursion P (direct_names (standing_root w g i).home)
        its_direct i r e = by (direct (type_at w.table r.of) (root_at g i)) refl
          where
            by : (o : Option (ℕ × ℕ)) → direct (type_at w.table r.of) (root_at g i) ≡ o → AllByRecursion P (direct_names (standing_root w g i).home)
            by None q = subst (λ (x : Standing). AllByRecursion P (direct_names x.home)) (sym (standing_is w g s i r e None q)) tt
            by (Some (c, t)) q =
                let (to, d, (ks, v), ty) = known i r e c t q in
                subst (λ (x : Standing). AllByRecursion P (direct_names x.home)) (sym (standing_is w g s i r e (Some (c, t)) q))
                (f (record { home = home.Root i; node = 0; class = Ref; to = to.0; cell = Some c; agreements = [] }) (direct_mine w g s i r e to d c ks v) c refl, tt)

-- ## The numbers of full pointers

full_append : (ms ns : List Entry) → full_cells (ms ++ ns) ≡ full_cells ms ++ full_cells ns
full_append [] ns = refl
full_append (m ∷ ms) ns = ap (λ cs. full_cell m.kind ++ cs) (full_append ms ns) ∙ sym (append_assoc (full_cell m.kind) (full_cells ms) (full_cells ns))

its_full : (k : Kind) (d : Class × ℕ) → Among (named_by k) d → d.0 ≡ Full → Among (full_cell k) d.1
its_full (Number Full to (Some c)) d (inl e) f = inl (ap (λ (x : Class × ℕ). x.1) e)
its_full (Number Full to (Some c)) d (inr a) f = absurd a
its_full (Number Unique to (Some c)) d (inl e) f = let z : Unique ≡ Full = sym (ap (λ (x : Class × ℕ). x.0) e) ∙ f in cc
its_full (Number Unique to (Some c)) d (inr a) f = absurd a
its_full (Number Ref to (Some c)) d (inl e) f = let z : Ref ≡ Full = sym (ap (λ (x : Class × ℕ). x.0) e) ∙ f in cc
its_full (Number Ref to (Some c)) d (inr a) f = absurd a
its_full (Number class to None) d a f = absurd a
its_full _ d a f = absurd a

full_among : (ms : List Entry) (d : Class × ℕ) → Among (names_in (untested ms)) d → d.0 ≡ Full → Among (full_cells ms) d.1
full_among [] d a f = absurd a
full_among (m ∷ ms) d a f = go (is_test m.kind) a (full_among ms d)
  where
    whichever : Among (named_by m.kind) d ⊎ Among (names_in (untested ms)) d → (Among (names_in (untested ms)) d → d.0 ≡ Full → Among (full_cells ms) d.1)
        → Among (full_cells (m ∷ ms)) d.1
    whichever (inl x) later = among_left (full_cell m.kind) (full_cells ms) d.1 (its_full m.kind d x f)
    whichever (inr x) later = among_right (full_cell m.kind) (full_cells ms) d.1 (later x f)

    go : (b : Bool) → Among (names_in (kept_if b m (untested ms))) d → (Among (names_in (untested ms)) d → d.0 ≡ Full → Among (full_cells ms) d.1) → Among (full_cells (m ∷ ms)) d.1
    go true a later = among_right (full_cell m.kind) (full_cells ms) d.1 (later a f)
    go false a later = whichever (among_split (named_by m.kind) (names_in (untested ms)) d a) later

-- of the steps
pub steps_full : (w : Setting) (g : Graph) (us : List Step) (d : Class × ℕ) → Among (flat_map (step_names w g) us) d → d.0 ≡ Full
    → Among (full_cells (flat_map (step_entries w g) us)) d.1
steps_full w g [] d a f = absurd a
steps_full w g (u ∷ us) d a f =
    subst (λ cs. Among cs d.1) (sym (full_append (step_entries w g u) (flat_map (step_entries w g) us)))
    (whichever (among_split (step_names w g u) (flat_map (step_names w g) us) d a) (steps_full w g us d))
  where
    value : (h : Home) (t : ℕ) (v : Tree) → Among (names_all (home_pointers w.table h t v)) d → Among (full_cells (whole_value w.table h t v)) d.1
    value h t v b = full_among (whole_value w.table h t v) d (subst (λ ns. Among ns d) (sym (home_names w.table h t v)) b) f

    own_name : (h : Home) → Among (direct_names h) d → ⊥
    own_name (home.Root i) b = b
    own_name (home.Cell c) (inl e) = let z : Ref ≡ Full = sym (ap (λ (x : Class × ℕ). x.0) e) ∙ f in cc
    own_name (home.Cell c) (inr b) = b

    of_root : (x : Standing) → Among (direct_names x.home) d ⊎ Among (standing_names w x) d → Among (full_cells (whole_value w.table x.home x.of x.val)) d.1
    of_root x (inl b) = absurd (own_name x.home b)
    of_root x (inr b) = value x.home x.of x.val b

    one : (u : Step) → Among (step_names w g u) d → Among (full_cells (step_entries w g u)) d.1
    one (root_stands i) b =
        let x : Standing = standing_root w g i in
        of_root x (among_split (direct_names x.home) (standing_names w x) d b)
    one (referent_stands p c) b =
        let x : Standing = standing_cell g p c in
        subst (λ cs. Among cs d.1) (sym (full_append (whole_value w.table x.home x.of x.val) (step_tests g p c)))
        (among_left (full_cells (whole_value w.table x.home x.of x.val)) (full_cells (step_tests g p c)) d.1 (value x.home x.of x.val b))
    one (stands_already p c) b = absurd b

    whichever : Among (step_names w g u) d ⊎ Among (flat_map (step_names w g) us) d → (Among (flat_map (step_names w g) us) d → d.0 ≡ Full → Among (full_cells (flat_map (step_entries w g) us)) d.1)
        → Among (full_cells (step_entries w g u) ++ full_cells (flat_map (step_entries w g) us)) d.1
    whichever (inl b) later = among_left (full_cells (step_entries w g u)) _ d.1 (one u b)
    whichever (inr b) later = among_right (full_cells (step_entries w g u)) _ d.1 (later b f)
