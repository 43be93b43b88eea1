use Rattle.std.proofs.Common.{◌≡◌, ℕ, true, List, ◌∙◌, refl, sym, ap, subst, subst₂}
use Rattle.nd_base.specs.Text.{is_identifier}
use Rattle.nd_types.specs.Legal.{IsLegal}
use Rattle.nd_types.specs.Rounds.{layouts_of}
use Rattle.nd_types.proofs.EqualLaws.{same_interface}
use Rattle.nd_types.proofs.interface.Interface.copy.Goals as goal

-- The copies of a legal interface's types, layouts and operations are those of a legal interface, as they are equal.
pub invariant_of-result : goal.invariant_of-result
invariant_of-result c = record {
  named = subst (λ (n : List ℕ). is_identifier n ≡ true) (sym (c.in_ok-name.ensures ∙ c.as_slice.ensures.same)) c.args.self.now.named;
  legal = subst₂ IsLegal (sym c.in_ok-types.ensures) (sym c.in_ok-operations.ensures) c.args.self.now.legal;
  laid_out = c.in_ok-layouts.ensures ∙ c.args.self.now.laid_out ∙ ap layouts_of (sym c.in_ok-types.ensures);
}

pub returns : goal.returns
returns c = same_interface _ _ (c.in_ok-name.ensures ∙ c.as_slice.ensures.same) refl refl refl c.in_ok-types.ensures c.in_ok-layouts.ensures c.in_ok-operations.ensures
