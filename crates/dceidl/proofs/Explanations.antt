-- What words of `why` come to, as the outcome of their command.
use Rattle.std.proofs.Common.{◌≡◌, List, ℕ, Option, Some, refl, ap, subst, inl}
use Rattle.command_line.specs.Words.{Command, Why, command, command_or_why, why_words}
use Rattle.command_streams.specs.declared.outcome.Outcome.{Outcome}
use Rattle.command_streams.specs.declared.outcome.Outcome.TheVariants.{Done, Refused, Reported, Wanting}
use Rattle.command_refusals.specs.declared.refusal.Refusal.TheVariants.{Memory}
use Rattle.dceidl.specs.Asked.{Asks, AsksFor, Seen}
use Rattle.dceidl.specs.Run.{IsOutcome, IsCommandOutcome, IsExplanation}

as_outcome : (x : Seen) (words : List (List ℕ)) (outcome : Outcome) → IsExplanation words outcome → IsCommandOutcome x (Why words) outcome
as_outcome x words (Done made) h = h
as_outcome x words (Refused status line) h = absurd h
as_outcome x words (Reported text status line) h = inl h
as_outcome x words Wanting h = (Memory, refl)

module _ (x : Seen) (all words : List (List ℕ)) (is : Some words ≡ why_words all) where
  command_is : Some (Why words) ≡ command all
  command_is = ap (λ (o : Option (List (List ℕ))). command_or_why o all) is

  pub explained_outcome : (outcome : Outcome) → IsExplanation words outcome → IsOutcome x (command all) outcome
  explained_outcome outcome h = subst (λ (o : Option Command). IsOutcome x o outcome) command_is (as_outcome x words outcome h)

  pub explained_asks : AsksFor x (Why words) → Asks x (command all)
  explained_asks h = subst (λ (o : Option Command). Asks x o) command_is h
