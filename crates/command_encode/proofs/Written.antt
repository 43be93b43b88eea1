-- What is written of a fit, and why nothing is, from what the encoder answers.
use Rattle.std.proofs.Common.{◌≡◌, ◌∙◌, ℕ, List, length, Some, sym, subst, arith}
use Rattle.std.proofs.lemmas.Option.{same_Some}
use Rattle.std.specs.List.{slice_get}
use Rattle.nd_base.specs.declared.octets.Order.{Order}
use Rattle.nd_types.specs.declared.interface.Interface.{Interface}
use Rattle.nd_types.specs.declared.types.Operation.{Operation}
use Rattle.nd_value.specs.Fitting.{Fitting, setting_beside}
use Rattle.nd_value.specs.Setting.{Setting}
use Rattle.nd_grammar.specs.Stream.{Chosen}
use Rattle.ndr_encode.specs.Work.{WorkSeen, IsWorkFor, IsTooLong, IsChosen}
use Rattle.command_refusals.specs.declared.refusal.Refusal.{Refusal}
use Rattle.command_refusals.specs.declared.refusal.Refusal.TheVariants.{Memory, Absent, FileFailed, BadIdl, NoOperation, ReadFault, BadOctets, BadText, BadValue, TooLong, BadRequest, BadLabel}
use Rattle.command_refusals.specs.declared.refusal.Refusal.TheVariants.{ShortLabel, TooFewEnds, EndFailed}
use Rattle.command_refusals.specs.declared.refusal.Refusal.TheVariants.{BadPdu, NotCompatible, BadScript, LongScript}
use Rattle.command_encode.specs.Encoded.{IsWritten, IsLong, IsWritingCause}
use Rattle.command_encode.specs.Prepared.{IsUnprepared}

module _ (f : Fitting) (k : ℕ) (o : Operation) (there : slice_get f.interface.operations f.op ≡ Some o) where
  abbrev own : Setting
  own = setting_beside f.interface o f.side f.given

  written_own : (work : WorkSeen) → IsWorkFor f k work → (order : Order) (octets : List ℕ) → IsChosen f order work.chunk octets → length octets ≡ work.length
      → IsWritten own order k f.graph octets
  written_own work is order octets chosen many =
      let within = is.within in
      record { chosen = subst (λ n. Chosen own order n f.graph octets) is.chunk (chosen o there); within = omega (arith, many, within) }

-- octets that are too many, on the side of the operation that is there
long_own : (f : Fitting) (k : ℕ) (o : Operation) → slice_get f.interface.operations f.op ≡ Some o → (many : ℕ) → IsTooLong f k many
    → IsLong (setting_beside f.interface o f.side f.given) k f.graph many
long_own f k o there many t = record {
  chosen = λ order octets c.
      t.many order octets (λ p its. subst (λ q. Chosen (setting_beside f.interface q f.side f.given) order k f.graph octets) (same_Some _ _ (sym there ∙ its)) c);
  long = t.too_long;
}

cause_own : (f : Fitting) (k : ℕ) (o : Operation) → slice_get f.interface.operations f.op ≡ Some o → (r : Refusal) → IsUnprepared f k r
    → IsWritingCause (setting_beside f.interface o f.side f.given) k f.graph r
cause_own f k o there (TooLong many) t = long_own f k o there many t
cause_own f k o there Memory cause = tt
cause_own f k o there (Absent file) cause = absurd cause
cause_own f k o there (FileFailed file) cause = absurd cause
cause_own f k o there (BadIdl file line column reason) cause = absurd cause
cause_own f k o there NoOperation cause = absurd cause
cause_own f k o there ReadFault cause = absurd cause
cause_own f k o there (BadOctets place why) cause = absurd cause
cause_own f k o there (BadText line column reason) cause = absurd cause
cause_own f k o there (BadValue path reason) cause = absurd cause
cause_own f k o there (BadRequest fault) cause = absurd cause
cause_own f k o there (BadLabel fault) cause = absurd cause
cause_own f k o there ShortLabel cause = absurd cause
cause_own f k o there (TooFewEnds wanted found) cause = absurd cause
cause_own f k o there (EndFailed which) cause = absurd cause
cause_own f k o there (BadPdu spot because) cause = absurd cause
cause_own f k o there (NotCompatible differing) cause = absurd cause
cause_own f k o there (BadScript row) cause = absurd cause
cause_own f k o there LongScript cause = absurd cause

-- ## Under the interface of the call

module _ (f : Fitting) (i : Interface) (tied : f.interface ≡ i) (k : ℕ) (o : Operation) (there : slice_get i.operations f.op ≡ Some o) where
  there_own : slice_get f.interface.operations f.op ≡ Some o
  there_own = subst (λ (j : Interface). slice_get j.operations f.op ≡ Some o) (sym tied) there

  pub written_is : (work : WorkSeen) → IsWorkFor f k work → (order : Order) (octets : List ℕ) → IsChosen f order work.chunk octets → length octets ≡ work.length
      → IsWritten (setting_beside i o f.side f.given) order k f.graph octets
  written_is work is order octets chosen many =
      subst (λ (j : Interface). IsWritten (setting_beside j o f.side f.given) order k f.graph octets) tied (written_own f k o there_own work is order octets chosen many)

  pub cause_is : (r : Refusal) → IsUnprepared f k r → IsWritingCause (setting_beside i o f.side f.given) k f.graph r
  cause_is r cause =
      subst (λ (j : Interface). IsWritingCause (setting_beside j o f.side f.given) k f.graph r) tied (cause_own f k o there_own r cause)
