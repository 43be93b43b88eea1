-- The arm that a tag selects, found arm by arm.
use Rattle.std.proofs.Common.{◌≡◌, ℕ, ◌+◌, ℤ, Bool, true, false, List, drop, Option, Some, ap, ◌∙◌}
use Rattle.std.specs.List.{slice_get}
use Rattle.std.specs.Ordering.{int_eq}
use Rattle.nd_types.specs.declared.types.Arm.{Arm}
use Rattle.nd_types.specs.Table.{labelled, or_else, selected}
use Rattle.nd_lemmas.proofs.Lists.{drop_next as drop-get}

module _ (default : Option Arm) (tag : ℤ) where
  abbrev rest : Arm → List Arm → Bool → Option Arm
  rest a arms b = or_else (elim b [ true ↦ Some a | false ↦ labelled arms tag ]) default

  -- one arm further
  pub arm_found : (arms : List Arm) (i : ℕ) (a : Arm) → slice_get arms i ≡ Some a → int_eq a.label tag ≡ true → selected (drop i arms) default tag ≡ Some a
  arm_found arms i a e h = ap (λ xs. selected xs default tag) (drop-get arms i a e) ∙ ap (rest a (drop (i + 1) arms)) h

  pub arm_next : (arms : List Arm) (i : ℕ) (a : Arm) → slice_get arms i ≡ Some a → int_eq a.label tag ≡ false
      → selected (drop i arms) default tag ≡ selected (drop (i + 1) arms) default tag
  arm_next arms i a e h = ap (λ xs. selected xs default tag) (drop-get arms i a e) ∙ ap (rest a (drop (i + 1) arms)) h
