-- The agreements of parameters, as the reader tries them before the pipes are read.
use Rattle.std.proofs.Common.{◌≡◌, ℕ, ◌+◌, ℤ, Bool, true, false, List, [], ◌∷◌, ◌++◌, length, Some, None, refl, ap, ap₂, sym, ◌∙◌, inl, inr, ◌⊎◌, subst, drop}
use Rattle.std.specs.List.{AllByRecursion}
use Rattle.nd_base.specs.declared.octets.Order.{Order}
use Rattle.nd_types.specs.declared.types.Attr.{Attr}
use Rattle.nd_types.specs.Roots.{Root}
use Rattle.nd_value.specs.declared.value.Graph.{Graph}
use Rattle.nd_value.specs.declared.item.Home.{Home}
use Rattle.nd_value.specs.declared.item.Home.TheVariants as home
use Rattle.nd_value.specs.Tree as tree
use Rattle.nd_value.specs.Tree.{Tree, Trees, node, none, more}
use Rattle.nd_value.specs.Agreement.{Agreement, number_of, found_in, starred, root_agreements}
use Rattle.nd_value.specs.Setting.{Setting, root_at, cell_at, cell_home, unread}
use Rattle.nd_value.proofs.Apart.{all_append}
use Rattle.nd_value.proofs.SameVariables.{agreements_same}
use Rattle.nd_grammar.specs.Entry.{Entry, Test, tests}
use Rattle.nd_grammar.specs.Stream.{Spells, root_test, root_tests}
use Rattle.nd_grammar.specs.Reader.{Progress, pass, pass_all}
use Rattle.nd_grammar.proofs.reader.ReaderSteps.{Follows}
use Rattle.nd_grammar.proofs.reader.EntriesFine.{IsFine, Fine}

-- an agreement
abbrev pub IsTest : Entry → Type 0
IsTest m = (a : Attr) × (wanted : ℤ) × (found : ℤ) × (m.kind ≡ Test a wanted found)

tests_are : (h : Home) (n : ℕ) (t : Tree) (ags : List Agreement) → AllByRecursion IsTest (tests h n t ags)
tests_are h n t [] = tt
tests_are h n t (a ∷ ags) = ((a.attr, a.wanted, found_in a.attr t, refl), tests_are h n t ags)

root_test_is : (g : Graph) (i : ℕ) (v : Tree) (ags : List Agreement) → AllByRecursion IsTest (root_test g i v ags)
root_test_is g i (node (tree.Ptr None) ks) ags = tt
root_test_is g i (node (tree.Ptr (Some c)) ks) ags = tests_are (cell_home c) 0 (cell_at g c) ags
root_test_is g i (node (tree.Num z) ks) ags = tests_are (home.Root i) 0 (node (tree.Num z) ks) ags
root_test_is g i (node l ks) ags = tests_are (home.Root i) 0 (node l ks) ags

pub root_tests_are : (w : Setting) (g : Graph) (i : ℕ) (rs : List Root) (vs : List Tree) → AllByRecursion IsTest (root_tests w g i rs vs)
root_tests_are w g i [] vs = tt
root_tests_are w g i (r ∷ rs) [] = tt
root_tests_are w g i (r ∷ rs) (v ∷ vs) =
    all_append IsTest (root_test g i v (root_agreements w g r.vars)) (root_tests w g (i + 1) rs vs) (root_test_is g i v (root_agreements w g r.vars)) (root_tests_are w g (i + 1) rs vs)

pub tests_follow : (order : Order) (octets : List ℕ) (nums : ℕ → ℕ) (ms : List Entry) → AllByRecursion IsTest ms → (p : Progress) → Follows order octets nums p ms (pass_all order octets ms p)
tests_follow order octets nums [] a p = refl
tests_follow order octets nums (m ∷ ms) a p =
    let (at, wanted, found, e) = a.0 in
    ((λ os f. subst (λ k. Spells order nums k os) (sym e) tt), tests_follow order octets nums ms a.1 (pass order octets m p))

pub tests_fine : (P : ℕ → Type 0) (ms : List Entry) → AllByRecursion IsTest ms → AllByRecursion (Fine P) ms
tests_fine P [] a = tt
tests_fine P (m ∷ ms) a = let (at, wanted, found, e) = a.0 in (subst (IsFine P) (sym e) tt, tests_fine P ms a.1)

-- a pipe's root, or a value that is unread
abbrev pub Top : Tree → Type 0
Top v = (v ≡ unread) ⊎ ((ks : Trees) × (v ≡ node tree.Pipe ks))

-- two roots are one value, or neither says anything of agreements
abbrev pub SameTop : Tree → Tree → Type 0
SameTop v v' = (v ≡ v') ⊎ (Top v × Top v')

module _ (w : Setting) (g g' : Graph) (cells : (c : ℕ) → cell_at g c ≡ cell_at g' c) (roots : (i : ℕ) → SameTop (root_at g i) (root_at g' i)) where
  starred_top : (k : Graph) (b : Bool) (v : Tree) → Top v → starred k b v ≡ None
  starred_top k true v (inl e) = ap (starred k true) e
  starred_top k false v (inl e) = ap (starred k false) e
  starred_top k true v (inr (ks, e)) = ap (starred k true) e
  starred_top k false v (inr (ks, e)) = ap (starred k false) e

  starred_same : (b : Bool) (v : Tree) → starred g b v ≡ starred g' b v
  starred_same false v = refl
  starred_same true (node (tree.Ptr (Some c)) ks) = ap number_of (cells c)
  starred_same true (node (tree.Ptr None) ks) = refl
  starred_same true (node (tree.Num z) ks) = refl
  starred_same true (node l ks) = refl

  starred_at : (b : Bool) (v v' : Tree) → SameTop v v' → starred g b v ≡ starred g' b v'
  starred_at b v v' (inl e) = starred_same b v ∙ ap (starred g' b) e
  starred_at b v v' (inr (x, y)) = starred_top g b v x ∙ sym (starred_top g' b v' y)

  pub roots_starred : (i : ℕ) (star : Bool) → starred g star (root_at g i) ≡ starred g' star (root_at g' i)
  roots_starred i star = starred_at star (root_at g i) (root_at g' i) (roots i)

  test_same : (i : ℕ) (v : Tree) (ags : List Agreement) → root_test g i v ags ≡ root_test g' i v ags
  test_same i (node (tree.Ptr (Some c)) ks) ags = ap (λ u. tests (cell_home c) 0 u ags) (cells c)
  test_same i (node (tree.Ptr None) ks) ags = refl
  test_same i (node (tree.Num z) ks) ags = refl
  test_same i (node l ks) ags = refl

  no_test : (k : Graph) (i : ℕ) (v : Tree) → root_test k i v [] ≡ []
  no_test k i (node (tree.Ptr (Some c)) ks) = refl
  no_test k i (node (tree.Ptr None) ks) = refl
  no_test k i (node (tree.Num z) ks) = refl
  no_test k i (node l ks) = refl

  no_tests : (k : Graph) (i : ℕ) (rs : List Root) (vs : List Tree) → AllByRecursion (λ r. r.vars ≡ []) rs → root_tests w k i rs vs ≡ []
  no_tests k i [] vs a = refl
  no_tests k i (r ∷ rs) [] a = refl
  no_tests k i (r ∷ rs) (v ∷ vs) a = ap₂ (λ u z. u ++ z) (ap (λ u. root_test k i v (root_agreements w k u)) a.0 ∙ no_test k i v) (no_tests k (i + 1) rs vs a.1)

  -- roots that have no attributes are not tried, the others alike
  pub tests_same : (i : ℕ) (rs : List Root) (us vs vs' : List Tree) → AllByRecursion (λ r. r.vars ≡ []) (drop (length us) rs)
      → root_tests w g i rs (us ++ vs) ≡ root_tests w g' i rs (us ++ vs')
  tests_same i rs [] vs vs' a = no_tests g i rs vs a ∙ sym (no_tests g' i rs vs' a)
  tests_same i [] (u ∷ us) vs vs' a = refl
  tests_same i (r ∷ rs) (u ∷ us) vs vs' a =
      ap₂ (λ x y. x ++ y) (test_same i u (root_agreements w g r.vars) ∙ ap (root_test g' i u) (agreements_same w g g' roots_starred r.vars)) (tests_same (i + 1) rs us vs vs' a)
