-- Integers of 128 bits, compared with others.
use Rattle.std.proofs.Common.{◌≡◌, ℤ, true, ap, ◌∙◌, false, sym}
use Rattle.std.proofs.lemmas.Bool.{false_from_ne_true}
use Rattle.std.proofs.lemmas.Bool.Decides.{Decides-int_eq}
use Rattle.std.proofs.lemmas.Int.{to_z-of_z}
use Rattle.std.specs.Ordering.{int_eq}
use mir.Syntax.{w128}
use mir.Val.{SFits, of_z, to_z}

pub equal_from : (y z : ℤ) → SFits w128 z → of_z w128 y ≡ of_z w128 z → int_eq (to_z w128 (of_z w128 y)) z ≡ true
equal_from y z fits e = (Decides-int_eq (to_z w128 (of_z w128 y)) z).1 (ap (to_z w128) e ∙ to_z-of_z w128 z fits)

pub other_from : (y z : ℤ) → SFits w128 y → (of_z w128 y ≡ of_z w128 z → ⊥) → int_eq (to_z w128 (of_z w128 y)) z ≡ false
other_from y z fits n =
    false_from_ne_true (int_eq (to_z w128 (of_z w128 y)) z)
    (λ t. n (ap (of_z w128) (sym (to_z-of_z w128 y fits) ∙ (Decides-int_eq (to_z w128 (of_z w128 y)) z).0 t)))

pub equal_to : (y z : ℤ) → SFits w128 y → of_z w128 y ≡ of_z w128 z → int_eq y (to_z w128 (of_z w128 z)) ≡ true
equal_to y z fits e = (Decides-int_eq y (to_z w128 (of_z w128 z))).1 (sym (to_z-of_z w128 y fits) ∙ ap (to_z w128) e)

pub other_than : (y z : ℤ) → SFits w128 z → (of_z w128 y ≡ of_z w128 z → ⊥) → int_eq y (to_z w128 (of_z w128 z)) ≡ false
other_than y z fits n =
    false_from_ne_true (int_eq y (to_z w128 (of_z w128 z)))
    (λ t. n (ap (of_z w128) ((Decides-int_eq y (to_z w128 (of_z w128 z))).0 t ∙ to_z-of_z w128 z fits)))
