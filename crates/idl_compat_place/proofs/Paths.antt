-- The text of steps, written from the first step on.
use Rattle.std.proofs.Common.{arith, ◌≡◌, ℕ, ◌+◌, ◌-◌, ◌<◌, List, ◌∷◌, ◌++◌, Option, Some, None, refl, ap, sym, ◌∙◌, drop}
use Rattle.std.specs.Prelude.{slice_get}
use Rattle.nd_types.specs.declared.types.TypeId.{TypeId}
use Rattle.nd_types.specs.Table.{Table}
use Rattle.idl_listing.proofs.ListedLines.{left_is}
use Rattle.idl_compat_place.specs.declared.steps.Step.{Step}
use Rattle.idl_compat_place.specs.Differences.{led, stepped, child_of}
use Rattle.idl_compat_place.specs.Lines.{found, step_text, path_text}

stepped_by : (types : Table) (t : Option TypeId) (n : Step) → child_of (found types t) n ≡ stepped types t n
stepped_by types None n = refl
stepped_by types (Some t) n = refl

module _ (types : Table) (t of : Option TypeId) (steps : List Step) (at : ℕ) (n : Step) (some : 0 < at) (is : slice_get steps (at - 1) ≡ Some n) where
  left : n ∷ drop at steps ≡ drop (at - 1) steps
  left = let e : at - 1 + 1 ≡ at = omega (arith, some) in ap (λ i. n ∷ drop i steps) (sym e) ∙ left_is steps (at - 1) n is

  pub path_turn : (text text' : List ℕ) → text ≡ path_text types t (drop at steps) → of ≡ led types t (drop at steps) → text' ≡ text ++ step_text (found types of) n
      → text' ≡ path_text types t (drop (at - 1) steps)
  path_turn text text' e f g =
      g ∙ ap (λ x. x ++ step_text (found types of) n) e ∙ ap (λ x. path_text types t (drop at steps) ++ step_text (found types x) n) f ∙ ap (λ x. path_text types t x) left

  pub led_turn : (of' : Option TypeId) → of ≡ led types t (drop at steps) → of' ≡ child_of (found types of) n → of' ≡ led types t (drop (at - 1) steps)
  led_turn of' f g = g ∙ ap (λ x. child_of (found types x) n) f ∙ stepped_by types (led types t (drop at steps)) n ∙ ap (λ x. led types t x) left
