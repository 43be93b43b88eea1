-- Strings that are read in one go, as far as their octets are at hand.
-- `s` is a state, `left` and `left_now` are the octets of the source before and after, `run` is an address.
use Rattle.std.specs.Prelude.{◌≡◌, ◌≤◌, ℕ, ◌+◌, ◌==◌, if◌then◌else◌, List, [], ◌∷◌, length, drop, slice_get, Option, Some, Result, Ok, Err}
use Rattle.std.specs.Io.KnownBytes.{Consumes}
use Rattle.nd_base.specs.declared.octets.Order.{Order}
use Rattle.nd_base.specs.declared.TheConstants.{STREAM_LIMIT}
use Rattle.nd_base.specs.Over.{SourceOver}
use Rattle.nd_types.specs.Number.{AreOctets, unsigned}
use Rattle.nd_value.specs.declared.item.Home.{Home}
use Rattle.ndr_code.specs.declared.instr.Instr.{Instr}
use Rattle.ndr_code.specs.declared.instr.Instr.TheVariants as op
use Rattle.ndr_code.specs.declared.lists.EnumList.{EnumList}
use Rattle.ndr_decoder_laws.specs.declared.frame.Frame.TheVariants as frame
use Rattle.ndr_decoder_laws.specs.steps.Steps.{State, Outcome, begun, goes, jumped, past, refused, with_max}
use Rattle.ndr_decoder_fast.specs.declared.fault.LeapFault.{LeapFault}
use Rattle.ndr_decoder_fast.specs.declared.fault.LeapFault.TheVariants as leap
use Rattle.ndr_decoder_fast.specs.Faults.{reason_of}
use Rattle.ndr_decoder_fast.specs.Leaps.{Leapt, GivesUp, Refuses}

-- ## Octets

-- these octets came from the source
pub record HasCome (left left_now : Option (List ℕ)) (os : List ℕ) : Type 0 where
  pub octets : AreOctets os
  pub taken : Consumes left left_now os

-- four octets came, which are this number
pub record CountCame (order : Order) (left left_now : Option (List ℕ)) (n : ℕ) : Type 0 where
  pub os : List ℕ
  pub came : HasCome left left_now os
  pub size : length os ≡ 4
  pub number : unsigned order os ≡ n

-- a gap of so many octets came, and after it a maximum count
pub record MaxCame (order : Order) (left left_now : Option (List ℕ)) (gap max : ℕ) : Type 0 where
  pub os : List ℕ
  pub came : HasCome left left_now os
  pub size : length os ≡ gap + 4
  pub number : unsigned order (drop gap os) ≡ max

-- the first zero among octets is at this place; their number where none is
abbrev pub first_zero : List ℕ → ℕ
first_zero [] = 0
first_zero (b ∷ bs) = if b == 0 then 0 else first_zero bs + 1

-- ## The code

-- The state is at the `hoist` of a string that is a home of its own: the run of the string is its gap and its `text` with this bound. So many octets
-- more are within the limit of a stream.
pub record IsAtString (code : List Instr) (room run bound : ℕ) (s : State) : Type 0 where
  pub first : s.phase ≡ begun
  pub home : s.top ≡ frame.Home
  pub within : s.at + room ≤ STREAM_LIMIT
  pub calls : slice_get code (s.pc + 1) ≡ Some (op.Call run)
  pub aligns : slice_get code run ≡ Some (op.Align 4)
  pub reads : slice_get code (run + 1) ≡ Some (op.Text bound)

-- after a gap and the maximum count, at the `text` of a run
abbrev pub max_read : ℕ → ℕ → ℕ → State → State
max_read gap max run s = jumped (run + 1) (past 4 begun (with_max max (past gap begun s)))

-- ## What comes of a string

-- some of its steps were taken, or none; memory failed; or its octets are refused
abbrev pub GoesFar : List EnumList → Order → List Instr → Home → State → SourceOver → ℕ → ℕ → State → Result (Unit {0}) LeapFault → Type 0
GoesFar values order code h s0 source steps steps_now s1 (Ok u) = Leapt values order code h s0 source steps steps_now s1
GoesFar values order code h s0 source steps steps_now s1 (Err (leap.Bad place why)) =
    Refuses values order code h s0 source steps steps_now s1 place (reason_of why)
GoesFar values order code h s0 source steps steps_now s1 (Err leap.Memory) = GivesUp values order code h s0 source steps steps_now s1

-- the same, whatever the code, where it has this `text`
abbrev pub ReadsText : Order → ℕ → State → SourceOver → ℕ → ℕ → State → Result (Unit {0}) LeapFault → Type 0
ReadsText order bound s0 source steps steps_now s1 r =
    (values : List EnumList) (code : List Instr) (h : Home) → slice_get code s0.pc ≡ Some (op.Text bound)
    → GoesFar values order code h s0 source steps steps_now s1 r

-- the octets of a string were read, or are refused; out of memory says nothing
abbrev pub TextDoes : Outcome → Result (Unit {0}) LeapFault → State → Type 0
TextDoes o (Ok u) s = o ≡ goes s
TextDoes o (Err (leap.Bad place why)) s = o ≡ refused place (reason_of why)
TextDoes o (Err leap.Memory) s = Unit {0}
