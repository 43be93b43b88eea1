-- The numbers of pointers in a stream are those of pointers of the graph.
use Rattle.std.proofs.Common.{◌≡◌, ℕ, ◌+◌, ◌≤◌, zero, suc, ℤ, Bool, true, false, List, [], ◌∷◌, ◌++◌, length, Option, Some, None, refl, sym, inl, arith, subst, replicate, drop}
use Rattle.std.specs.Prelude.{map, flat_map}
use Rattle.std.specs.List.{AllByRecursion, slice_get}
use Rattle.std.proofs.lemmas.Grind.{flat_map-append}
use Rattle.std.proofs.lemmas.Option.{same_Some}
use Rattle.nd_types.specs.declared.types.Arm.{Arm}
use Rattle.nd_types.specs.declared.types.Class.{Class}
use Rattle.nd_types.specs.declared.types.TypeDef.{TypeDef}
use Rattle.nd_types.specs.declared.types.TypeDef.TheVariants as def
use Rattle.nd_types.specs.declared.types.TypeId.{TypeId}
use Rattle.nd_types.specs.Table.{Table, type_at}
use Rattle.nd_types.specs.Layout.{hoists}
use Rattle.nd_types.specs.Roots.{Root}
use Rattle.nd_value.specs.declared.value.Graph.{Graph}
use Rattle.nd_value.specs.declared.item.Home.{Home}
use Rattle.nd_value.specs.declared.item.Home.TheVariants as home
use Rattle.nd_value.specs.Tree as tree
use Rattle.nd_value.specs.Tree.{Tree, Trees, node, none, more, Label, Referent, node_count, is_pointer, cell_in, take_trees, drop_trees}
use Rattle.nd_value.specs.Agreement.{Agreement, root_agreements}
use Rattle.nd_value.specs.Setting.{Setting, Among, root_list, cell_at, cell_of_number, cell_home}
use Rattle.nd_value.specs.Nodes.{TypedNode, nodes_of, child_types, child_agreements, first_agreements, rest_agreements}
use Rattle.nd_value.specs.Deferral.{Pending, pointer, pointer_by, home_pointers, Due, due_root, due_referent, due_roots, before_pipes, Step, Deferral, none_due, at_root, at_null, at_standing}
use Rattle.nd_value.specs.Deferral.{at_referent, Standing, standing_root, standing_cell, due_of, Placed_cells}
use Rattle.nd_value.specs.Conforms.{in_home, root_nodes, cell_nodes, all_nodes, root_pointers, cell_pointers, all_pointers}
use Rattle.nd_value.specs.Misfit.{is_no_null_ref, names_cell, names_pointee}
use Rattle.nd_value.proofs.Apart.{all_append, all_left, all_right, all_map, all_among, among_left, among_right}
use Rattle.nd_value.proofs.NodeFacts.{IsSound, orderly}
use Rattle.nd_value.proofs.Orderly.{PointerFits, Pointee, pointee_of_cell}
use Rattle.nd_value.proofs.FewRoots.{few_before_pipes}
use Rattle.nd_grammar.specs.Entry.{Kind, Entry, Number, before_children, entries, counts, tag_entries, in_place, tests, own_tests, child_tests, hoisted, hoisted_max, whole_value}
use Rattle.nd_grammar.specs.Stream.{Stream, step_entries, standing_entries, step_tests, root_test, root_tests, chunk_entries, chunks, pipe_entries, pipes_entries, head_entries}
use Rattle.nd_grammar.proofs.next.Mapped.{no_pointers}
use Rattle.nd_grammar.proofs.next.NextInPlace.{NoNull, no_null}
use Rattle.nd_grammar.proofs.next.NextStream.{FitsPipes, IsLaidOut, IsPipeRoot}
use Rattle.nd_grammar.proofs.next.PointerPlaces.{root_there, in_cell, in_standing}

-- a number is that of a pointer among these
pub record NumberOf (ps : List Pending) (h : Home) (n : ℕ) (k : Class) (c : Option ℕ) : Type 0 where
  pub its : Pending
  pub among : Among ps its
  pub home : its.home ≡ h
  pub node : its.node ≡ n
  pub class : its.class ≡ k
  pub cell : its.cell ≡ c

abbrev pub KindHasPointer : List Pending → Home → ℕ → Kind → Type 0
KindHasPointer ps h n (Number k to c) = NumberOf ps h n k c
KindHasPointer ps h n _ = Unit {0}

-- an entry is no number, or that of a pointer among these
abbrev pub HasPointer : List Pending → Entry → Type 0
HasPointer ps m = KindHasPointer ps m.home m.node m.kind

module _ (ps : List Pending) (h : Home) where
  have_entries : (n : ℕ) (xs : List Kind) → AllByRecursion (KindHasPointer ps h n) xs → AllByRecursion (HasPointer ps) (entries h n xs)
  have_entries n [] a = tt
  have_entries n (x ∷ xs) a = (a.0, have_entries n xs a.1)

  have_counts : (n : ℕ) (varying : Bool) (m o k : ℕ) → AllByRecursion (KindHasPointer ps h n) (counts varying m o k)
  have_counts n false m o k = tt
  have_counts n true m o k = (tt, (tt, (tt, tt)))

  have_tag : (n : ℕ) (d : Option TypeDef) (arms : List Arm) (default : Option Arm) (v : ℤ) → AllByRecursion (KindHasPointer ps h n) (tag_entries d arms default v)
  have_tag n (Some (def.Prim p)) arms default v = (tt, (tt, tt))
  have_tag n (Some (def.Enum vs)) arms default v = (tt, (tt, tt))
  have_tag n _ arms default v = (tt, tt)

  have_before : (table : Table) (t n : ℕ) (d : Option TypeDef) (l : Label) (ks : Trees) (ags : List Agreement)
      → ((p : Pending) → Among (pointer_by d (is_pointer l) (cell_in l) h n ags) p → Among ps p)
      → AllByRecursion (KindHasPointer ps h n) (before_children table t d l ks)
  have_before table t n (Some (def.Prim p)) (tree.Num z) ks ags f = (tt, (tt, tt))
  have_before table t n (Some (def.Enum vs)) (tree.Num z) ks ags f = (tt, (tt, tt))
  have_before table t n (Some (def.Struct ms)) tree.Rec ks ags f = (tt, tt)
  have_before table t n (Some (def.Array e b v)) (tree.Arr m o) ks ags f = have_counts n v m o _
  have_before table t n (Some (def.Text e b)) (tree.Text m os) ks ags f = (tt, (tt, (tt, (tt, tt))))
  have_before table t n (Some (def.Union tag enc arms default)) (tree.Union v) ks ags f = have_tag n (type_at table tag.0) arms default v
  have_before table t n (Some (def.Pointer k to)) (tree.Ptr c) ks ags f =
      let p : Pending = record { home = h; node = n; class = k; to = to.0; cell = c; agreements = ags } in
      (tt, (record { its = p; among = f p (inl refl); home = refl; node = refl; class = refl; cell = refl }, tt))
  have_before table t n (Some def.Context) (tree.Context a i) ks ags f = (tt, (tt, tt))
  have_before table t n _ _ ks ags f = (tt, tt)

  have_tests : (n : ℕ) (v : Tree) (ags : List Agreement) → AllByRecursion (HasPointer ps) (tests h n v ags)
  have_tests n v [] = tt
  have_tests n v (a ∷ ags) = (tt, have_tests n v ags)

  have_own : (b : Bool) (n : ℕ) (v : Tree) (ags : List Agreement) → AllByRecursion (HasPointer ps) (own_tests b h n v ags)
  have_own true n v ags = tt
  have_own false n v ags = have_tests n v ags

  have_child_tests : (ags : List (List Agreement)) (n : ℕ) (ts : Trees) → AllByRecursion (HasPointer ps) (child_tests h ags n ts)
  have_child_tests ags n none = tt
  have_child_tests ags n (more (node l ks) ts) =
      all_append (HasPointer ps) (own_tests (is_pointer l) h n (node l ks) (first_agreements ags)) (child_tests h (rest_agreements ags) (n + 1 + node_count ks) ts)
      (have_own (is_pointer l) n (node l ks) (first_agreements ags)) (have_child_tests (rest_agreements ags) (n + 1 + node_count ks) ts)

  have_hoisted : (n : ℕ) (b : Bool) (l : Label) (m : ℕ) → AllByRecursion (KindHasPointer ps h n) (hoisted b l m)
  have_hoisted n false l m = tt
  have_hoisted n true tree.Unread m = tt
  have_hoisted n true (tree.Num z) m = (tt, (tt, tt))
  have_hoisted n true _ m = (tt, (tt, tt))

  module _ (table : Table) where
    -- values in their places, whose pointers are among these
    have_in_place : (types : List ℕ) (ags : List (List Agreement)) (n : ℕ) (ts : Trees)
        → ((p : Pending) → Among (flat_map (pointer table h) (nodes_of table types ags n ts)) p → Among ps p)
        → AllByRecursion (HasPointer ps) (in_place table h types n ts)
    have_in_place types ags n none f = tt
    have_in_place [] ags n (more t ts) f = tt
    have_in_place (t ∷ types) ags n (more (node l ks) ts) f =
        let d : Option TypeDef = type_at table t in
        let own : List Pending = pointer_by d (is_pointer l) (cell_in l) h n (first_agreements ags) in
        let kids : List TypedNode = nodes_of table (child_types d l ks) (child_agreements d ks) (n + 1) ks in
        let rest : List TypedNode = nodes_of table types (rest_agreements ags) (n + 1 + node_count ks) ts in
        let A : List Pending = flat_map (pointer table h) kids in
        let B : List Pending = flat_map (pointer table h) rest in
        let behind : (p : Pending) → Among (A ++ B) p → Among ps p =
        λ p a. f p (among_right own (flat_map (pointer table h) (kids ++ rest)) p (subst (λ u. Among u p) (sym (flat_map-append (pointer table h) kids rest)) a)) in
        all_append (HasPointer ps) (entries h n (before_children table t d l ks)) _
        (have_entries n (before_children table t d l ks)
        (have_before table t n d l ks (first_agreements ags) (λ p a. f p (among_left own (flat_map (pointer table h) (kids ++ rest)) p a))))
        (all_append (HasPointer ps) (in_place table h (child_types d l ks) (n + 1) ks) _
        (have_in_place (child_types d l ks) (child_agreements d ks) (n + 1) ks (λ p a. behind p (among_left A B p a)))
        (all_append (HasPointer ps) (child_tests h (child_agreements d ks) (n + 1) ks) (in_place table h types (n + 1 + node_count ks) ts)
        (have_child_tests (child_agreements d ks) (n + 1) ks)
        (have_in_place types (rest_agreements ags) (n + 1 + node_count ks) ts (λ p a. behind p (among_right A B p a)))))

    have_whole : (t : ℕ) (v : Tree) → ((p : Pending) → Among (home_pointers table h t v) p → Among ps p) → AllByRecursion (HasPointer ps) (whole_value table h t v)
    have_whole t (node l ks) f =
        all_append (HasPointer ps) (entries h 0 (hoisted (hoists table t) l (hoisted_max 0 (more (node l ks) none)))) (in_place table h (t ∷ []) 0 (more (node l ks) none))
        (have_entries 0 _ (have_hoisted 0 (hoists table t) l (hoisted_max 0 (more (node l ks) none))))
        (have_in_place (t ∷ []) [] 0 (more (node l ks) none) f)

    many : (k e : ℕ) → FitsPipes table e → AllByRecursion (FitsPipes table) (replicate k e)
    many zero e f = tt
    many (suc k) e f = (f, many k e f)

    -- a pipe's elements have no pointers
    have_chunks : (e : ℕ) → FitsPipes table e → (n : ℕ) (cut : List ℕ) (ts : Trees) → AllByRecursion (HasPointer ps) (chunks table h e n cut ts)
    have_chunks e f n [] ts = (tt, (tt, tt))
    have_chunks e f n (k ∷ cut) ts =
        all_append (HasPointer ps) (chunk_entries table h e n k (take_trees k ts)) (chunks table h e (n + node_count (take_trees k ts)) cut (drop_trees k ts))
        (tt, (tt, have_in_place (replicate k e) [] n (take_trees k ts) (λ p a. absurd (subst (λ u. Among u p) (no_pointers table h (replicate k e) [] n (take_trees k ts) (many k e f)) a))))
        (have_chunks e f (n + node_count (take_trees k ts)) cut (drop_trees k ts))

    have_pipe_value : (e : TypeId) → FitsPipes table e.0 → (cut : List ℕ) (v : Tree) → AllByRecursion (HasPointer ps) (pipe_entries table h (Some (def.Pipe e)) cut v)
    have_pipe_value e f cut (node tree.Pipe ks) = have_chunks e.0 f 1 cut ks
    have_pipe_value e f cut (node _ ks) = (tt, tt)

    have_pipe : (d : Option TypeDef) (e : TypeId) → d ≡ Some (def.Pipe e) → FitsPipes table e.0 → (cut : List ℕ) (v : Tree)
        → AllByRecursion (HasPointer ps) (pipe_entries table h d cut v)
    have_pipe d e ed f cut v = subst (λ u. AllByRecursion (HasPointer ps) (pipe_entries table h u cut v)) (sym ed) (have_pipe_value e f cut v)

-- a pointer names a cell of its referent's type, and is no null reference
pub record IsGoodPointer (g : Graph) (p : Pending) : Type 0 where
  pub typed : Pointee g p
  pub no_null : NoNull p.class p.cell

module _ (w : Setting) (g : Graph) (s : IsSound w g) where
  abbrev P : Pending → Type 0
  P = IsGoodPointer g

  abbrev all : List Pending
  all = all_pointers w g

  abbrev Fits : ℕ → Label → Type 0
  Fits t l = PointerFits w.table g t l

  good_pointer : (d : Option TypeDef) (l : Label) (h : Home) (n : ℕ) (ags : List Agreement) → is_no_null_ref d l ≡ true → names_cell g l ≡ true → names_pointee g d l ≡ true
      → AllByRecursion (IsGoodPointer g) (pointer_by d (is_pointer l) (cell_in l) h n ags)
  good_pointer (Some (def.Pointer k to)) (tree.Ptr None) h n ags a b c = (record { typed = λ e s. cc; no_null = no_null k to None a }, tt)
  good_pointer (Some (def.Pointer k to)) (tree.Ptr (Some q)) h n ags a b c = (
    record {
      typed = λ e s. subst (λ u. (x : Referent) × (cell_of_number g u ≡ Some x) × (x.of ≡ to.0)) (same_Some _ _ s) (pointee_of_cell g k to q b c);
      no_null = no_null k to (Some q) a;
    },
    tt,
  )
  good_pointer (Some (def.Pointer k to)) _ h n ags a b c = tt
  good_pointer _ l h n ags a b c = tt

  good_nodes : (h : Home) (types : List ℕ) (ags ags' : List (List Agreement)) (n : ℕ) (ts : Trees)
      → AllByRecursion (λ x. Fits x.of x.label) (nodes_of w.table types ags n ts) → AllByRecursion (IsGoodPointer g) (flat_map (pointer w.table h) (nodes_of w.table types ags' n ts))
  good_nodes h types ags ags' n none a = tt
  good_nodes h [] ags ags' n (more t ts) a = tt
  good_nodes h (t ∷ types) ags ags' n (more (node l ks) ts) a =
      let d : Option TypeDef = type_at w.table t in
      let kids : List TypedNode = nodes_of w.table (child_types d l ks) (child_agreements d ks) (n + 1) ks in
      let rest : List TypedNode = nodes_of w.table types (rest_agreements ags) (n + 1 + node_count ks) ts in
      let rest' : List TypedNode = nodes_of w.table types (rest_agreements ags') (n + 1 + node_count ks) ts in
      all_append P (pointer_by d (is_pointer l) (cell_in l) h n (first_agreements ags')) _
      (good_pointer d l h n (first_agreements ags') a.0.no_null a.0.cell a.0.pointee)
      (subst (AllByRecursion P) (sym (flat_map-append (pointer w.table h) kids rest'))
      (all_append P (flat_map (pointer w.table h) kids) (flat_map (pointer w.table h) rest')
      (good_nodes h (child_types d l ks) (child_agreements d ks) (child_agreements d ks) (n + 1) ks (all_left _ kids rest a.1))
      (good_nodes h types (rest_agreements ags) (rest_agreements ags') (n + 1 + node_count ks) ts (all_right _ kids rest a.1))))

  good_roots : (n : ℕ) (rs : List Root) (vs : List Tree) → AllByRecursion (λ x. Fits x.typed.of x.typed.label) (root_nodes w g n rs vs)
      → AllByRecursion (IsGoodPointer g) (root_pointers w.table n rs vs)
  good_roots n [] vs a = tt
  good_roots n (r ∷ rs) [] a = tt
  good_roots n (r ∷ rs) (v ∷ vs) a =
      all_append P (home_pointers w.table (home.Root n) r.of v) (root_pointers w.table (n + 1) rs vs)
      (good_nodes (home.Root n) (r.of ∷ []) (root_agreements w g r.vars ∷ []) [] 0 (more v none)
      (all_map (λ x. Fits x.typed.of x.typed.label) (in_home (home.Root n)) _ (all_left _ _ (root_nodes w g (n + 1) rs vs) a)))
      (good_roots (n + 1) rs vs (all_right _ _ (root_nodes w g (n + 1) rs vs) a))

  good_cells : (n : ℕ) (xs : List Referent) → AllByRecursion (λ x. Fits x.typed.of x.typed.label) (cell_nodes w.table n xs)
      → AllByRecursion (IsGoodPointer g) (cell_pointers w.table n xs)
  good_cells n [] a = tt
  good_cells n (x ∷ xs) a =
      all_append P (home_pointers w.table (cell_home n) x.of x.val) (cell_pointers w.table (n + 1) xs)
      (good_nodes (cell_home n) (x.of ∷ []) [] [] 0 (more x.val none)
      (all_map (λ x. Fits x.typed.of x.typed.label) (in_home (cell_home n)) _ (all_left _ _ (cell_nodes w.table (n + 1) xs) a)))
      (good_cells (n + 1) xs (all_right _ _ (cell_nodes w.table (n + 1) xs) a))

  all_good : AllByRecursion (IsGoodPointer g) (all_pointers w g)
  all_good =
      let fit : AllByRecursion (λ x. Fits x.typed.of x.typed.label) (all_nodes w g) = (orderly w g s).fit in
      all_append P (root_pointers w.table 0 (root_list w) g.roots) (cell_pointers w.table 1 g.cells)
      (good_roots 0 (root_list w) g.roots (all_left _ (root_nodes w g 0 (root_list w) g.roots) (cell_nodes w.table 1 g.cells) fit))
      (good_cells 1 g.cells (all_right _ (root_nodes w g 0 (root_list w) g.roots) (cell_nodes w.table 1 g.cells) fit))

  pub is_good : (p : Pending) → Among (all_pointers w g) p → IsGoodPointer g p
  is_good p a = all_among P (all_pointers w g) p a all_good

  -- what is due of a graph: a root that is there, or one of its pointers
  abbrev IsDue : Due → Type 0
  IsDue (due_root i) = (r : Root) × (slice_get (root_list w) i ≡ Some r)
  IsDue (due_referent p) = Among (all_pointers w g) p

  are_due : (ps : List Pending) → ((p : Pending) → Among ps p → Among (all_pointers w g) p) → AllByRecursion IsDue (map due_referent ps)
  are_due [] f = tt
  are_due (p ∷ ps) f = (f p (inl refl), are_due ps (λ q a. f q (among_right (p ∷ []) ps q a)))

  abbrev K : Entry → Type 0
  K = HasPointer (all_pointers w g)

  have_steps : {done : Placed_cells} {due : List Due} {steps : List Step} → Deferral w g done due steps → AllByRecursion IsDue due
      → AllByRecursion (HasPointer (all_pointers w g)) (flat_map (step_entries w g) steps)
  have_steps none_due a = tt
  have_steps (at_root {i = i} {due = due} {steps = steps} free d) a =
      let x : Standing = standing_root w g i in
      let inside = in_standing w g s i a.0.0 a.0.1 in
      all_append K (standing_entries w.table x) (flat_map (step_entries w g) steps) (have_whole all x.home w.table x.of x.val inside)
      (have_steps d (all_append IsDue (due_of w.table x) due (are_due (home_pointers w.table x.home x.of x.val) inside) a.1))
  have_steps (at_null e d) a = have_steps d a.1
  have_steps (at_standing {p = p} {steps = steps} c e full h d) a =
      all_append K (step_tests g p c) (flat_map (step_entries w g) steps) (have_tests all (cell_home c) 0 (cell_at g c) p.agreements) (have_steps d a.1)
  have_steps (at_referent {p = p} {due = due} {steps = steps} c e n d) a =
      let x : Standing = standing_cell g p c in
      let inside = in_cell w g c p.to ((is_good p a.0).typed c e) in
      all_append K (standing_entries w.table x ++ step_tests g p c) (flat_map (step_entries w g) steps)
      (all_append K (standing_entries w.table x) (step_tests g p c) (have_whole all x.home w.table x.of x.val inside)
      (have_tests all (cell_home c) 0 (cell_at g c) p.agreements))
      (have_steps d (all_append IsDue (due_of w.table x) due (are_due (home_pointers w.table x.home x.of x.val) inside) a.1))

  have_root_test : (i : ℕ) (l : Label) (ks : Trees) (ags : List Agreement) → AllByRecursion (HasPointer (all_pointers w g)) (root_test g i (node l ks) ags)
  have_root_test i (tree.Ptr None) ks ags = tt
  have_root_test i (tree.Ptr (Some c)) ks ags = have_tests all (cell_home c) 0 (cell_at g c) ags
  have_root_test i (tree.Num z) ks ags = have_tests all (home.Root i) 0 (node (tree.Num z) ks) ags
  have_root_test i tree.Rec ks ags = have_tests all (home.Root i) 0 (node tree.Rec ks) ags
  have_root_test i (tree.Arr m o) ks ags = have_tests all (home.Root i) 0 (node (tree.Arr m o) ks) ags
  have_root_test i (tree.Text m os) ks ags = have_tests all (home.Root i) 0 (node (tree.Text m os) ks) ags
  have_root_test i (tree.Union v) ks ags = have_tests all (home.Root i) 0 (node (tree.Union v) ks) ags
  have_root_test i (tree.Context a q) ks ags = have_tests all (home.Root i) 0 (node (tree.Context a q) ks) ags
  have_root_test i tree.Pipe ks ags = have_tests all (home.Root i) 0 (node tree.Pipe ks) ags
  have_root_test i tree.Unread ks ags = have_tests all (home.Root i) 0 (node tree.Unread ks) ags

  have_root_tests : (i : ℕ) (rs : List Root) (vs : List Tree) → AllByRecursion (HasPointer (all_pointers w g)) (root_tests w g i rs vs)
  have_root_tests i [] vs = tt
  have_root_tests i (r ∷ rs) [] = tt
  have_root_tests i (r ∷ rs) (node l ks ∷ vs) =
      all_append K (root_test g i (node l ks) (root_agreements w g r.vars)) (root_tests w g (i + 1) rs vs)
      (have_root_test i l ks (root_agreements w g r.vars)) (have_root_tests (i + 1) rs vs)

  module _ (laid : IsLaidOut w) where
    have_pipes : (i : ℕ) (rs : List Root) (vs : List Tree) (cuts : List (List ℕ)) → AllByRecursion (IsPipeRoot w.table) rs
        → AllByRecursion (HasPointer (all_pointers w g)) (pipes_entries w.table i rs vs cuts)
    have_pipes i [] vs cuts a = tt
    have_pipes i (r ∷ rs) [] cuts a = tt
    have_pipes i (r ∷ rs) (v ∷ vs) [] a = tt
    have_pipes i (r ∷ rs) (v ∷ vs) (cut ∷ cuts) a =
        all_append K (pipe_entries w.table (home.Root i) (type_at w.table r.of) cut v) (pipes_entries w.table (i + 1) rs vs cuts)
        (have_pipe all (home.Root i) w.table (type_at w.table r.of) a.0.elem a.0.type_is (laid.elements r.of a.0.elem a.0.type_is) cut v)
        (have_pipes (i + 1) rs vs cuts a.1)

    roots_due : (i k : ℕ) → i + k ≤ length (root_list w) → AllByRecursion IsDue (due_roots i k)
    roots_due i zero h = tt
    roots_due i (suc k) h = (root_there w i (omega arith), roots_due (suc i) k (omega arith))

    -- the numbers in a stream of the graph are those of its pointers
    pub have_stream : (ms : List Entry) → Stream w g ms → AllByRecursion (HasPointer (all_pointers w g)) ms
    have_stream ms a =
        let n : ℕ = before_pipes (root_list w) in
        let few : n ≤ length (root_list w) = few_before_pipes (root_list w) in
        subst (AllByRecursion K) (sym a.is_representation)
        (all_append K (head_entries w g a.steps) (pipes_entries w.table n (drop n (root_list w)) (drop n g.roots) a.cuts)
        (all_append K (flat_map (step_entries w g) a.steps) (root_tests w g 0 (root_list w) g.roots) (have_steps a.deferral (roots_due 0 n (omega arith)))
        (have_root_tests 0 (root_list w) g.roots))
        (have_pipes n (drop n (root_list w)) (drop n g.roots) a.cuts laid.pipes))
