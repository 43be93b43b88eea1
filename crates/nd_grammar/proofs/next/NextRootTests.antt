-- The entries before an entry fix the next one, over the agreements of parameters.
use Rattle.std.proofs.Common.{◌≡◌, ℕ, ◌+◌, ℤ, Bool, true, false, List, [], ◌∷◌, ◌++◌, Option, Some, None, refl, ap, sym, ◌∙◌, inl, inr, ◌⊎◌, subst, append_assoc}
use Rattle.std.specs.List.{AllByRecursion}
use Rattle.nd_types.specs.declared.types.Class.{Class}
use Rattle.nd_types.specs.Table.{type_at}
use Rattle.nd_types.specs.Roots.{Root}
use Rattle.nd_value.specs.declared.value.Graph.{Graph}
use Rattle.nd_value.specs.declared.item.Home.TheVariants as home
use Rattle.nd_value.specs.Tree as tree
use Rattle.nd_value.specs.Tree.{Tree, Trees, node, none, more, Label, is_pointer, cell_in}
use Rattle.nd_value.specs.Agreement.{Agreement, number_of, starred, root_agreements}
use Rattle.nd_value.specs.Setting.{Setting, root_at, cell_at, cell_home}
use Rattle.nd_value.proofs.Apart.{all_among}
use Rattle.nd_value.proofs.SameVariables.{agreements_same}
use Rattle.nd_grammar.specs.Entry.{Entry, tests}
use Rattle.nd_grammar.specs.Stream.{root_test, root_tests}
use Rattle.nd_grammar.proofs.next.Next.{Pair, Readings, Next}
use Rattle.nd_grammar.proofs.next.Matching.{class_of, Matched, CellsMatch, matched_number, through, pointer_bare}
use Rattle.nd_grammar.proofs.next.NextInPlace.{tests_next}
use Rattle.nd_grammar.proofs.next.Carried.{InMap}
use Rattle.nd_grammar.proofs.next.Standings.{PairFits, SameTop, found_top, top_of}

-- the number in the cell of a pointer
abbrev star_of : Graph → Option ℕ → Option ℤ
star_of g None = None
star_of g (Some c) = number_of (cell_at g c)

star_by_cell : (g : Graph) (l : Label) (ks : Trees) → starred g true (node l ks) ≡ star_of g (cell_in l)
star_by_cell g (tree.Ptr (Some c)) ks = refl
star_by_cell g (tree.Ptr None) ks = refl
star_by_cell g (tree.Num z) ks = refl
star_by_cell g _ ks = refl

-- the entries of a parameter's agreements, by its pointer
abbrev tests_by : Graph → ℕ → Tree → List Agreement → Bool → Option ℕ → List Entry
tests_by g i t ags true None = []
tests_by g i t ags true (Some c) = tests (cell_home c) 0 (cell_at g c) ags
tests_by g i t ags false o = tests (home.Root i) 0 t ags

test_by : (g : Graph) (i : ℕ) (l : Label) (ks : Trees) (ags : List Agreement) → root_test g i (node l ks) ags ≡ tests_by g i (node l ks) ags (is_pointer l) (cell_in l)
test_by g i (tree.Ptr (Some c)) ks ags = refl
test_by g i (tree.Ptr None) ks ags = refl
test_by g i (tree.Num z) ks ags = refl
test_by g i _ ks ags = refl

no_tests : (g : Graph) (i : ℕ) (t : Tree) (b : Bool) (o : Option ℕ) → tests_by g i t [] b o ≡ []
no_tests g i t true None = refl
no_tests g i t true (Some c) = refl
no_tests g i t false o = refl

no_root_test : (g : Graph) (i : ℕ) (t : Tree) → root_test g i t [] ≡ []
no_root_test g i (node l ks) = test_by g i l ks [] ∙ no_tests g i (node l ks) (is_pointer l) (cell_in l)

module _ (two : Readings) (W X : List Pair → Type 0) (w : Setting) (g g' : Graph) (ys : List Pair) (one : W ys)
    (fit : AllByRecursion (PairFits two w g g') ys) where
  abbrev N : ℕ → List Entry → List Entry → Type 0
  N at ms ns = Next two W X ys at ms ns

  star_same : (k : Class) (o o' : Option ℕ) → InMap ys k o o' → star_of g o ≡ star_of g' o'
  star_same k None None m = refl
  star_same k None (Some d) m = absurd m
  star_same k (Some c) None m = absurd m
  star_same k (Some c) (Some d) (z, a, l, r) =
      let f = all_among (PairFits two w g g') ys z a fit in
      ap (λ u. number_of (cell_at g u)) (sym l)
      ∙ matched_number (CellsMatch two.left two.right) w.table (z.of ∷ []) (more (cell_at g z.left) none) (more (cell_at g' z.right) none) f.matched 0
      ∙ ap (λ u. number_of (cell_at g' u)) r

  abbrev Carried : ℕ → Tree → Tree → Type 0
  Carried t v v' = Matched (InMap ys) w.table (t ∷ []) (more v none) (more v' none)

  pub starred_same : (t : ℕ) (star : Bool) (v v' : Tree) → Carried t v v' → starred g star v ≡ starred g' star v'
  starred_same t false v v' m = matched_number (InMap ys) w.table (t ∷ []) (more v none) (more v' none) m 0
  starred_same t true (node l ks) (node l' ks') m =
      star_by_cell g l ks ∙ star_same (class_of (type_at w.table t)) (cell_in l) (cell_in l') m.0.cells ∙ sym (star_by_cell g' l' ks')

  root_test_by : (i : ℕ) (t : ℕ) (v v' : Tree) → Carried t v v' → (ags : List Agreement) (k : Class) (b : Bool) (o o' : Option ℕ) → InMap ys k o o'
      → (ms ns : List Entry) (at : ℕ) → ((p : ℕ) → N p ms ns) → N at (tests_by g i v ags b o ++ ms) (tests_by g' i v' ags b o' ++ ns)
  root_test_by i t v v' m ags k true None None c ms ns at next = next at
  root_test_by i t v v' m ags k true None (Some d) c ms ns at next = absurd c
  root_test_by i t v v' m ags k true (Some b) None c ms ns at next = absurd c
  root_test_by i t v v' m ags k true (Some c) (Some d) (z, a, l, r) ms ns at next =
      let f = all_among (PairFits two w g g') ys z a fit in
      let top : SameTop (cell_at g c) (cell_at g' d) = subst (λ u. SameTop (cell_at g u) (cell_at g' d)) l
      (subst (λ u. SameTop (cell_at g z.left) (cell_at g' u)) r
      (top_of (CellsMatch two.left two.right) w.table z.of (cell_at g z.left) (cell_at g' z.right) f.matched)) in
      tests_next two W X ys one w.table g g' (cell_home c) (cell_home d) (z, a, l, r) 0 (cell_at g c) (cell_at g' d) ags (found_top _ _ top) ms ns at next
  root_test_by i t v v' m ags k false o o' c ms ns at next =
      tests_next two W X ys one w.table g g' (home.Root i) (home.Root i) refl 0 v v' ags (found_top v v' (top_of (InMap ys) w.table t v v' m)) ms ns at next

  root_test_next : (i : ℕ) (t : ℕ) (v v' : Tree) → Carried t v v' → (ags : List Agreement)
      → (ms ns : List Entry) (at : ℕ) → ((p : ℕ) → N p ms ns) → N at (root_test g i v ags ++ ms) (root_test g' i v' ags ++ ns)
  root_test_next i t (node l ks) (node l' ks') m ags ms ns at next =
      let same : is_pointer l ≡ is_pointer l' = through l l' m.0.same is_pointer pointer_bare in
      subst (λ u. N at (u ++ ms) (root_test g' i (node l' ks') ags ++ ns)) (sym (test_by g i l ks ags))
      (subst (λ u. N at (tests_by g i (node l ks) ags (is_pointer l) (cell_in l) ++ ms) (u ++ ns)) (sym (test_by g' i l' ks' ags))
      (subst (λ u. N at (tests_by g i (node l ks) ags (is_pointer l) (cell_in l) ++ ms) (tests_by g' i (node l' ks') ags u (cell_in l') ++ ns)) same
      (root_test_by i t (node l ks) (node l' ks') m ags (class_of (type_at w.table t)) (is_pointer l) (cell_in l) (cell_in l') m.0.cells ms ns at next)))

  module _ (vars_same : (i : ℕ) (star : Bool) → starred g star (root_at g i) ≡ starred g' star (root_at g' i)) where
    -- each root has no attributes, or is carried
    abbrev pub RootsReady : List Root → List Tree → List Tree → Type 0
    RootsReady (r ∷ rs) (v ∷ vs) (v' ∷ vs') = ((r.vars ≡ []) ⊎ Matched (InMap ys) w.table (r.of ∷ []) (more v none) (more v' none)) × RootsReady rs vs vs'
    RootsReady [] [] [] = Unit {0}
    RootsReady _ _ _ = ⊥

    one_root_next : (i : ℕ) (r : Root) (v v' : Tree) → (r.vars ≡ []) ⊎ Carried r.of v v'
        → (ms ns : List Entry) (at : ℕ) → ((p : ℕ) → N p ms ns)
        → N at (root_test g i v (root_agreements w g r.vars) ++ ms) (root_test g' i v' (root_agreements w g' r.vars) ++ ns)
    one_root_next i r v v' (inl e) ms ns at next =
        let none_left : root_test g i v (root_agreements w g r.vars) ≡ [] = ap (λ u. root_test g i v (root_agreements w g u)) e ∙ no_root_test g i v in
        let none_right : root_test g' i v' (root_agreements w g' r.vars) ≡ [] = ap (λ u. root_test g' i v' (root_agreements w g' u)) e ∙ no_root_test g' i v' in
        subst (λ u. N at (u ++ ms) (root_test g' i v' (root_agreements w g' r.vars) ++ ns)) (sym none_left)
        (subst (λ u. N at ms (u ++ ns)) (sym none_right) (next at))
    one_root_next i r v v' (inr m) ms ns at next =
        subst (λ u. N at (root_test g i v (root_agreements w g r.vars) ++ ms) (root_test g' i v' u ++ ns)) (agreements_same w g g' vars_same r.vars)
        (root_test_next i r.of v v' m (root_agreements w g r.vars) ms ns at next)

    pub root_tests_next : (i : ℕ) (rs : List Root) (vs vs' : List Tree) → RootsReady rs vs vs'
        → (ms ns : List Entry) (at : ℕ) → ((p : ℕ) → N p ms ns) → N at (root_tests w g i rs vs ++ ms) (root_tests w g' i rs vs' ++ ns)
    root_tests_next i [] [] [] a ms ns at next = next at
    root_tests_next i [] [] (v ∷ vs) a ms ns at next = absurd a
    root_tests_next i [] (v ∷ vs) vs' a ms ns at next = absurd a
    root_tests_next i (r ∷ rs) [] vs' a ms ns at next = absurd a
    root_tests_next i (r ∷ rs) (v ∷ vs) [] a ms ns at next = absurd a
    root_tests_next i (r ∷ rs) (v ∷ vs) (v' ∷ vs') a ms ns at next =
        rw (
          append_assoc (root_test g i v (root_agreements w g r.vars)) (root_tests w g (i + 1) rs vs) ms,
          append_assoc (root_test g' i v' (root_agreements w g' r.vars)) (root_tests w g' (i + 1) rs vs') ns,
        )
        (one_root_next i r v v' a.0 (root_tests w g (i + 1) rs vs ++ ms) (root_tests w g' (i + 1) rs vs' ++ ns) at (λ p.
        root_tests_next (i + 1) rs vs vs' a.1 ms ns p next))
