-- The agreements that are tried in a cell which a pointer names alone: they are those of the root that the pointer is, or of the member.
-- `w` is a setting, `g` a partial graph, `p` and `q` are pointers, `c` and `d` cells, `h` is a home, `n` a node's number, `m` an entry, `a` an agreement or an
-- attribute, `at` and `j` are places of roots, `r` is a root, `v` its value.
use Rattle.std.proofs.Common.{◌≡◌, ◌⊎◌, inl, inr, ◌∙◌, ℕ, ◌+◌, ◌<◌, ℤ, Bool, true, false, List, [], ◌∷◌, ◌++◌, drop, map, Option, Some, None, refl, sym, ap, subst, arith}
use Rattle.std.specs.Prelude.{flat_map}
use Rattle.std.specs.List.{AllByRecursion, slice_get}
use Rattle.std.proofs.lemmas.Grind.{flat_map-append}
use Rattle.nd_types.specs.declared.types.Attr.{Attr}
use Rattle.nd_types.specs.declared.types.Class.{Class}
use Rattle.nd_types.specs.declared.types.TypeDef.{TypeDef}
use Rattle.nd_types.specs.declared.types.TypeDef.TheVariants as def
use Rattle.nd_types.specs.declared.types.TypeId.{TypeId}
use Rattle.nd_types.specs.Roots.{Root}
use Rattle.nd_types.specs.Table.{Table, type_at}
use Rattle.nd_value.specs.declared.item.Home.{Home}
use Rattle.nd_value.specs.declared.item.Home.TheVariants as home
use Rattle.nd_value.specs.declared.value.Graph.{Graph}
use Rattle.nd_value.specs.Agreement.{Agreement, found_in, root_agreements}
use Rattle.nd_value.specs.Deferral.{Deferral, Due, Pending as Pointer, Placed_cells, Standing, Step, at_null, at_referent, at_root, at_standing, before_pipes, due_of, due_referent, due_root}
use Rattle.nd_value.specs.Deferral.{due_roots, home_pointers, none_due, pointer, pointer_by, referent_stands, root_stands, standing_cell, standing_root}
use Rattle.nd_value.specs.Conforms.{all_pointers, cell_pointers, root_pointers}
use Rattle.nd_value.specs.Misfit.{has_counts, has_shape}
use Rattle.nd_value.specs.Nodes.{TypedNode, child_agreements, child_types, first_agreements, nodes_of, rest_agreements}
use Rattle.nd_value.specs.Setting.{Among, Setting, cell_at, cell_home, cell_of_number, or_unread, root_at, root_list}
use Rattle.nd_value.specs.Tree as tree
use Rattle.nd_value.specs.Tree.{Label, Referent, Tree, Trees, cell_in, is_pointer, more, node, node_count, none}
use Rattle.nd_value.proofs.Apart.{all_among, all_append}
use Rattle.nd_value.proofs.NodeFacts.{IsSound}
use Rattle.nd_value.proofs.FewRoots.{few_before_pipes}
use Rattle.nd_grammar.specs.Entry.{Entry, Kind, Test, tests, whole_value}
use Rattle.nd_grammar.specs.Stream.{Stream, pipes_entries, root_test, root_tests, standing_entries, step_entries, step_tests}
use Rattle.nd_grammar.proofs.Placed.{among_split}
use Rattle.nd_grammar.proofs.next.KnownNodes.{known_roots}
use Rattle.nd_grammar.proofs.next.Matching.{Known as AreKnown}
use Rattle.nd_grammar.proofs.next.PointerPlaces.{in_cell, in_standing, root_there}
use Rattle.nd_grammar.proofs.next.StreamPointers.{is_good}
use Rattle.nd_grammar.proofs.conforming.StreamConforms.{due_all}
use Rattle.ndr_trace_value.specs.Untested.{is_test}
use Rattle.ndr_trace_value.specs.Traces.{IsAtRoot, NamesAlone}
use Rattle.ndr_trace.proofs.FrontStreams.{as_pointer}
use Rattle.ndr_trace.proofs.OwnTests.{Later, OneOf, Says, pipes_later, roots_tell, same_attr, same_wanted, tests_say, tests_tell, whole_later}
use Rattle.ndr_trace.proofs.PointerMembers.{IsPointerMember, pointer_member}
use Rattle.ndr_trace.proofs.SolePointers.{root_pointer, same_cell, the_one}

-- ## The own values of homes have no agreements of members

abbrev Bare : Pointer → Type 0
Bare p = p.node ≡ 0 → p.agreements ≡ []

pointer_bare : (d : Option TypeDef) (b : Bool) (c : Option ℕ) (h : Home) (n : ℕ) (ags : List Agreement) → (n ≡ 0 → ags ≡ []) → AllByRecursion Bare (pointer_by d b c h n ags)
pointer_bare (Some (def.Pointer k to)) true c h n ags f = (f, tt)
pointer_bare (Some (def.Pointer k to)) false c h n ags f = tt
pointer_bare (Some (def.Prim p)) b c h n ags f = tt
pointer_bare None b c h n ags f = tt
pointer_bare (Some _) b c h n ags f = tt

module _ (table : Table) where
  nodes_bare : (h : Home) (types : List ℕ) (ags : List (List Agreement)) (n : ℕ) (ts : Trees) → (n ≡ 0 → first_agreements ags ≡ [])
      → AllByRecursion Bare (flat_map (pointer table h) (nodes_of table types ags n ts))
  nodes_bare h [] ags n none f = tt
  nodes_bare h (t ∷ types) ags n none f = tt
  nodes_bare h [] ags n (more v ts) f = tt
  nodes_bare h (t ∷ types) ags n (more (node l ks) ts) f =
      let d : Option TypeDef = type_at table t in
      let kids : List TypedNode = nodes_of table (child_types d l ks) (child_agreements d ks) (n + 1) ks in
      let rest : List TypedNode = nodes_of table types (rest_agreements ags) (n + 1 + node_count ks) ts in
      all_append Bare (pointer_by d (is_pointer l) (cell_in l) h n (first_agreements ags)) (flat_map (pointer table h) (kids ++ rest))
      (pointer_bare d (is_pointer l) (cell_in l) h n (first_agreements ags) f)
      (subst (AllByRecursion Bare) (sym (flat_map-append (pointer table h) kids rest))
      (all_append Bare (flat_map (pointer table h) kids) (flat_map (pointer table h) rest)
      (nodes_bare h (child_types d l ks) (child_agreements d ks) (n + 1) ks (λ e. absurd (omega (arith, e))))
      (nodes_bare h types (rest_agreements ags) (n + 1 + node_count ks) ts (λ e. absurd (omega (arith, e))))))

  home_bare : (h : Home) (t : ℕ) (v : Tree) → AllByRecursion Bare (home_pointers table h t v)
  home_bare h t v = nodes_bare h (t ∷ []) [] 0 (more v none) (λ e. refl)

  roots_bare : (n : ℕ) (rs : List Root) (vs : List Tree) → AllByRecursion Bare (root_pointers table n rs vs)
  roots_bare n [] vs = tt
  roots_bare n (r ∷ rs) [] = tt
  roots_bare n (r ∷ rs) (v ∷ vs) =
      all_append Bare (home_pointers table (home.Root n) r.of v) (root_pointers table (n + 1) rs vs) (home_bare (home.Root n) r.of v) (roots_bare (n + 1) rs vs)

  cells_bare : (n : ℕ) (xs : List Referent) → AllByRecursion Bare (cell_pointers table n xs)
  cells_bare n [] = tt
  cells_bare n (x ∷ xs) =
      all_append Bare (home_pointers table (cell_home n) x.of x.val) (cell_pointers table (n + 1) xs) (home_bare (cell_home n) x.of x.val) (cells_bare (n + 1) xs)

-- ## Over a stream

all_by : {X : Type 0} (P : X → Type 0) (xs : List X) → ((x : X) → Among xs x → P x) → AllByRecursion P xs
all_by P [] f = tt
all_by P (x ∷ xs) f = (f x (inl refl), all_by P xs (λ y e. f y (inr e)))

module _ (w : Setting) (g : Graph) (s : IsSound w g) where
  abbrev Mine : Pointer → Type 0
  Mine p = Among (all_pointers w g) p

  bare : (p : Pointer) → Mine p → Bare p
  bare p mine =
      all_among Bare (all_pointers w g) p mine
      (all_append Bare (root_pointers w.table 0 (root_list w) g.roots) (cell_pointers w.table 1 g.cells) (roots_bare w.table 0 (root_list w) g.roots) (cells_bare w.table 1 g.cells))

  -- an agreement that is tried at the own value of a home is that of a pointer which names this home
  abbrev OfPointer : Entry → Type 0
  OfPointer m = (p : Pointer) × (c : ℕ) × Mine p × (p.cell ≡ Some c) × Among (step_tests g p c) m

  abbrev Tells : Entry → Type 0
  Tells m = is_test m.kind ≡ true → m.node ≡ 0 → OfPointer m

  later_tells : (m : Entry) → Later 0 m → Tells m
  later_tells m f e z = let low = f e in absurd (omega (arith, low, z))

  all_later_tell : (ms : List Entry) → AllByRecursion (Later 0) ms → AllByRecursion Tells ms
  all_later_tell [] a = tt
  all_later_tell (m ∷ ms) a = (later_tells m a.0, all_later_tell ms a.1)

  standing_tells : (x : Standing) → AllByRecursion Tells (standing_entries w.table x)
  standing_tells x = all_later_tell (whole_value w.table x.home x.of x.val) (whole_later w.table x.home x.of x.val)

  pointer_tells : (p : Pointer) (c : ℕ) → Mine p → p.cell ≡ Some c → AllByRecursion Tells (step_tests g p c)
  pointer_tells p c mine is = all_by Tells (step_tests g p c) (λ m among e z. (p, c, mine, is, among))

  abbrev IsDue : Due → Type 0
  IsDue (due_root i) = (r : Root) × (slice_get (root_list w) i ≡ Some r)
  IsDue (due_referent p) = Mine p

  are_due : (ps : List Pointer) → ((p : Pointer) → Among ps p → Mine p) → AllByRecursion IsDue (map due_referent ps)
  are_due [] f = tt
  are_due (p ∷ ps) f = (f p (inl refl), are_due ps (λ q m. f q (inr m)))

  steps_tell : {done : Placed_cells} {due : List Due} {steps : List Step} → Deferral w g done due steps → AllByRecursion IsDue due
      → AllByRecursion Tells (flat_map (step_entries w g) steps)
  steps_tell none_due f = tt
  steps_tell (at_root {i = i} {due = due} {steps = steps} free d) f =
      let x : Standing = standing_root w g i in
      let (r, there) = f.0 in
      all_append Tells (step_entries w g (root_stands i)) (flat_map (step_entries w g) steps) (standing_tells x)
      (steps_tell d (all_append IsDue (due_of w.table x) due (are_due (home_pointers w.table x.home x.of x.val) (in_standing w g s i r there)) f.1))
  steps_tell (at_null e d) f = steps_tell d f.1
  steps_tell (at_standing {p = p} {steps = steps} c e full h d) f =
      all_append Tells (step_tests g p c) (flat_map (step_entries w g) steps) (pointer_tells p c f.0 e) (steps_tell d f.1)
  steps_tell (at_referent {p = p} {due = due} {steps = steps} c e n d) f =
      let x : Standing = standing_cell g p c in
      all_append Tells (step_entries w g (referent_stands p c)) (flat_map (step_entries w g) steps)
      (all_append Tells (standing_entries w.table x) (step_tests g p c) (standing_tells x) (pointer_tells p c f.0 e))
      (steps_tell d (all_append IsDue (due_of w.table x) due
      (are_due (home_pointers w.table x.home x.of x.val) (in_cell w g c p.to ((is_good w g s p f.0).typed c e))) f.1))

  -- ## The pointer that names the cell alone

  -- the pointer is a root, and an attribute of the root states the number
  pub record RootSays (p : Pointer) (a : Attr) (wanted : ℤ) : Type 0 where
    pub at : ℕ
    pub root : Root
    pub there : slice_get (root_list w) at ≡ Some root
    pub own : IsAtRoot p at
    pub class : Class
    pub to : TypeId
    pub type_is : type_at w.table root.of ≡ Some (def.Pointer class to)
    pub to_is : p.to ≡ to.0
    pub says : Says w g root.vars a wanted

  -- it has this agreement as a member
  abbrev pub MemberSays : Pointer → Attr → ℤ → Type 0
  MemberSays p a wanted = (x : Agreement) × Among p.agreements x × (x.attr ≡ a) × (x.wanted ≡ wanted)

  module _ (p : Pointer) (c : ℕ) (alone : NamesAlone w g p c) (m : Entry) (a : Attr) (wanted found : ℤ) (is : m.kind ≡ Test a wanted found) (at_cell : m.home ≡ cell_home c) where
    of_member : OfPointer m → MemberSays p a wanted
    of_member (q, d, mine, names, among) =
        let (x, k, entry) = tests_tell (cell_home d) 0 (cell_at g d) q.agreements m among in
        let same : d ≡ c = same_cell d c (sym (ap (λ (y : Entry). y.home) entry) ∙ at_cell) in
        let one : q ≡ p = the_one w g s.unshared p q c alone mine (names ∙ ap (λ n. Some n) same) in
        let same_kind : Test x.attr x.wanted (found_in x.attr (cell_at g d)) ≡ Test a wanted found = sym (ap (λ (y : Entry). y.kind) entry) ∙ is in (
          x,
          subst (λ (y : Pointer). Among y.agreements x) one k,
          same_attr x.attr a x.wanted wanted (found_in x.attr (cell_at g d)) found same_kind,
          same_wanted x.attr a x.wanted wanted (found_in x.attr (cell_at g d)) found same_kind,
        )

    named_root : (j : ℕ) (q : Root) (v : Tree) → slice_get (root_list w) j ≡ Some q → slice_get g.roots j ≡ Some v → Among (root_test g j v (root_agreements w g q.vars)) m
        → RootSays p a wanted
    named_root j q v root_is value e = by_value v value e
      where
        elsewhere : {A : Type 0} (u : Tree) → Among (tests (home.Root j) 0 u (root_agreements w g q.vars)) m → A
        elsewhere u k =
            let (its_home, says) = tests_say w g (home.Root j) 0 u q.vars m k a wanted found is in
            let z : home.Root j ≡ cell_home c = sym its_home ∙ at_cell in
            absurd (let y : ⊥ = cc in y)

        in_cell_of : (d : ℕ) (ks : Trees) → slice_get g.roots j ≡ Some (node (tree.Ptr (Some d)) ks) → Among (tests (cell_home d) 0 (cell_at g d) (root_agreements w g q.vars)) m
            → RootSays p a wanted
        in_cell_of d ks given k = by_shape known.0.shape
          where
            tells : (m.home ≡ cell_home d) × Says w g q.vars a wanted
            tells = tests_say w g (cell_home d) 0 (cell_at g d) q.vars m k a wanted found is

            same : d ≡ c
            same = same_cell d c (sym tells.0 ∙ at_cell)

            value_is : root_at g j ≡ node (tree.Ptr (Some d)) ks
            value_is = ap or_unread given

            known : AreKnown g w.table (q.of ∷ []) (more (node (tree.Ptr (Some d)) ks) none)
            known = subst (λ u. AreKnown g w.table (q.of ∷ []) (more u none)) value_is (known_roots w g s j q root_is)

            by_shape : (tree.Ptr (Some d) ≡ tree.Unread)
                ⊎ ((has_shape (type_at w.table q.of) (tree.Ptr (Some d)) ks ≡ true) × (has_counts (type_at w.table q.of) (tree.Ptr (Some d)) ks ≡ true))
                → RootSays p a wanted
            by_shape (inl u) = cc
            by_shape (inr (shape, counts)) =
                let (class, to, type_is) = as_pointer (type_at w.table q.of) (Some d) ks shape in
                let its : Pointer = record { home = home.Root j; node = 0; class = class; to = to.0; cell = Some d; agreements = [] } in
                let mine : Mine its = root_pointer w g s.all_roots j q root_is class to type_is d ks value_is in
                let one : its ≡ p = the_one w g s.unshared p its c alone mine (ap (λ n. Some n) same) in
                record {
                  at = j;
                  root = q;
                  there = root_is;
                  own = (ap (λ (y : Pointer). y.home) (sym one), ap (λ (y : Pointer). y.node) (sym one));
                  class = class;
                  to = to;
                  type_is = type_is;
                  to_is = sym (ap (λ (y : Pointer). y.to) one);
                  says = tells.1;
                }

        by_value : (u : Tree) → slice_get g.roots j ≡ Some u → Among (root_test g j u (root_agreements w g q.vars)) m → RootSays p a wanted
        by_value (node (tree.Ptr None) ks) f k = absurd k
        by_value (node (tree.Ptr (Some d)) ks) f k = in_cell_of d ks f k
        by_value (node (tree.Num z) ks) f k = elsewhere (node (tree.Num z) ks) k
        by_value (node tree.Rec ks) f k = elsewhere (node tree.Rec ks) k
        by_value (node (tree.Arr x o) ks) f k = elsewhere (node (tree.Arr x o) ks) k
        by_value (node (tree.Text x os) ks) f k = elsewhere (node (tree.Text x os) ks) k
        by_value (node (tree.Union z) ks) f k = elsewhere (node (tree.Union z) ks) k
        by_value (node (tree.Context x id) ks) f k = elsewhere (node (tree.Context x id) ks) k
        by_value (node tree.Pipe ks) f k = elsewhere (node tree.Pipe ks) k
        by_value (node tree.Unread ks) f k = elsewhere (node tree.Unread ks) k

    -- an agreement that is tried in the cell is the pointer's
    pointer_test : (ms : List Entry) → Stream w g ms → Among ms m → m.node ≡ 0 → MemberSays p a wanted ⊎ RootSays p a wanted
    pointer_test ms x among z = by_part (among_split (F ++ T) P m (subst (λ xs. Among xs m) x.is_representation among))
      where
        F : List Entry
        F = flat_map (step_entries w g) x.steps

        T : List Entry
        T = root_tests w g 0 (root_list w) g.roots

        P : List Entry
        P =
            pipes_entries w.table (before_pipes (root_list w)) (drop (before_pipes (root_list w)) (root_list w)) (drop (before_pipes (root_list w)) g.roots)
            x.cuts

        tried : is_test m.kind ≡ true
        tried = ap is_test is

        due : AllByRecursion IsDue (due_roots 0 (before_pipes (root_list w)))
        due = due_all IsDue 0 (before_pipes (root_list w)) (λ j h. root_there w (0 + j) (omega (arith, h, few_before_pipes (root_list w))))

        of_root : OneOf w g 0 (root_list w) g.roots m → RootSays p a wanted
        of_root (j, q, v, root_is, value, k) =
            let z : 0 + j ≡ j = omega arith in
            named_root j q v root_is value (subst (λ n. Among (root_test g n v (root_agreements w g q.vars)) m) z k)

        by_head : Among F m ⊎ Among T m → MemberSays p a wanted ⊎ RootSays p a wanted
        by_head (inl e) = inl (of_member (all_among Tells F m e (steps_tell x.deferral due) tried z))
        by_head (inr e) = inr (of_root (roots_tell w g 0 (root_list w) g.roots m e))

        by_part : Among (F ++ T) m ⊎ Among P m → MemberSays p a wanted ⊎ RootSays p a wanted
        by_part (inl e) = by_head (among_split F T m e)
        by_part (inr e) =
            inl (of_member (later_tells m (all_among (Later 0) P m e (pipes_later w.table (before_pipes (root_list w)) (drop (before_pipes (root_list w)) (root_list w))
            (drop (before_pipes (root_list w)) g.roots) x.cuts)) tried z))

    -- if the pointer is a root, it is one of the root's attributes
    pub root_test_of : (ms : List Entry) → Stream w g ms → Among ms m → m.node ≡ 0 → p.node ≡ 0 → RootSays p a wanted
    root_test_of ms x among z own = go (pointer_test ms x among z)
      where
        go : MemberSays p a wanted ⊎ RootSays p a wanted → RootSays p a wanted
        go (inl (y, k, attr_is, wanted_is)) = absurd (subst (λ xs. Among xs y) (bare p alone.among own) k)
        go (inr r) = r

    -- if it is not, it is one of a member's
    pub member_test_of : (ms : List Entry) → Stream w g ms → Among ms m → m.node ≡ 0 → 0 < p.node → IsPointerMember w g p a wanted
    member_test_of ms x among z low = go (pointer_test ms x among z)
      where
        go : MemberSays p a wanted ⊎ RootSays p a wanted → IsPointerMember w g p a wanted
        go (inl (y, k, attr_is, wanted_is)) =
            subst (λ u. IsPointerMember w g p a u) wanted_is (subst (λ b. IsPointerMember w g p b y.wanted) attr_is (pointer_member w g p y alone.among k))
        go (inr r) = let own = r.own.1 in absurd (omega (arith, own, low))
