-- The streams of a plain side: for each root a gap and a number, or an unread value.
use Rattle.std.proofs.Common.{◌≡◌, ℕ, ◌+◌, suc, Bool, true, false, List, [], ◌∷◌, ◌++◌, Some, refl, ap, ap₂, ◌∙◌, arith}
use Rattle.std.specs.List.{slice_get}
use Rattle.nd_value.specs.declared.item.Home.{Home}
use Rattle.nd_value.specs.Tree.{Tree, Trees, node, none, more, node_count, is_pointer}
use Rattle.nd_grammar.specs.Entry.{own_tests, child_tests}

pub own_none : (b : Bool) (h : Home) (n : ℕ) (t : Tree) → own_tests b h n t [] ≡ []
own_none true h n t = refl
own_none false h n t = refl

pub no_tests_below : (h : Home) (n : ℕ) (ks : Trees) → child_tests h [] n ks ≡ []
no_tests_below h n none = refl
no_tests_below h n (more (node l ks) ts) =
    ap₂ (λ x y. x ++ y) (own_none (is_pointer l) h n (node l ks)) (no_tests_below h (n + 1 + node_count ks) ts)

-- what is in a list from the i-th on
abbrev pub Suffix : {X : Type 0} → List X → ℕ → List X → Type 0
Suffix whole i rest = (k : ℕ) → slice_get whole (k + i) ≡ slice_get rest k

pub suffix_next : {X : Type 0} (whole : List X) (i : ℕ) (x : X) (rest : List X) → Suffix whole i (x ∷ rest) → Suffix whole (suc i) rest
suffix_next whole i x rest s k = let e : k + suc i ≡ suc k + i = omega arith in ap (slice_get whole) e ∙ s (suc k)

pub suffix_first : {X : Type 0} (whole : List X) (i : ℕ) (x : X) (rest : List X) → Suffix whole i (x ∷ rest) → slice_get whole i ≡ Some x
suffix_first whole i x rest s = let e : i ≡ 0 + i = omega arith in ap (slice_get whole) e ∙ s 0

pub suffix_whole : {X : Type 0} (whole : List X) → Suffix whole 0 whole
suffix_whole whole k = let e : k + 0 ≡ k = omega arith in ap (slice_get whole) e
