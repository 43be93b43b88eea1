-- What it comes to where agreements are tried with what is kept of their subject.
-- `as` are the agreements, `k` is what is kept.
use Rattle.std.specs.Prelude.{◌≡◌, ℕ, List, ◌∷◌, ◌++◌, Some, Result, Ok, Err}
use Rattle.nd_value.specs.Agreement.{Agreement}
use Rattle.nd_grammar.specs.declared.reason.Reason.{Reason}
use Rattle.ndr_decoder_state.specs.declared.fault.DecodeFault.{DecodeFault}
use Rattle.ndr_decoder_state.specs.declared.fault.DecodeFault.TheVariants as fault
use Rattle.ndr_decoder_laws.specs.declared.kept.Kept.{Kept}
use Rattle.ndr_decoder_laws.specs.stream.Tests.{AllAgree, disagreement}

-- The first of them that disagrees.
pub record IsFirst (ags : List Agreement) (k : Kept) (place : ℕ) (why : Reason) : Type 0 where
  pub before : List Agreement
  pub a : Agreement
  pub others : List Agreement
  pub split : ags ≡ before ++ a ∷ others
  pub agree : AllAgree k before
  pub is : disagreement a k.first k.max_at ≡ Some (place, why)

abbrev pub AreTried : List Agreement → Kept → Result (Unit {0}) DecodeFault → Type 0
AreTried ags k (Ok u) = AllAgree k ags
AreTried ags k (Err (fault.Bad place why)) = IsFirst ags k place why
AreTried ags k (Err fault.ReadFault) = ⊥
AreTried ags k (Err fault.Memory) = ⊥
