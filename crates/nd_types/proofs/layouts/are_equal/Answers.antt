use Rattle.std.proofs.Common.{◌≡◌, ◌∙◌, sym, true, List, [], ◌∷◌, ap₂, refl, rules}
use Rattle.std.specs.Cmp.Lexicographic.{pointwise}
use Rattle.nd_types.specs.declared.layouts.Layout.{Layout}
use Rattle.nd_types.specs.contracts.layouts.LayoutPartialEq.TheImpl.{eq-value}
use Rattle.nd_lemmas.proofs.Booleans.{first_true as left_true, second_true as right_true}
use Rattle.nd_types.proofs.layouts.are_equal.Goals as goal

same : (x y : Layout) → eq-value.it x y ≡ true → x ≡ y
same x y h = search rules

all_same : (xs ys : List Layout) → pointwise eq-value.it xs ys ≡ true → xs ≡ ys
all_same [] [] h = refl
all_same [] (y ∷ ys) h = cc
all_same (x ∷ xs) [] h = cc
all_same (x ∷ xs) (y ∷ ys) h =
    let first = left_true (eq-value.it x y) (pointwise eq-value.it xs ys) h in
    ap₂ (λ z zs. z ∷ zs) (same x y first) (all_same xs ys (right_true (eq-value.it x y) (pointwise eq-value.it xs ys) h))

pub returns : goal.returns
returns c = λ told. all_same c.args.a.now c.args.b.now (sym c.eq.ensures ∙ told)
