-- What a run of the code over octets comes to, from a state on, by its steps (`ndr_decoder_laws: specs/Reaching`).
-- `s0` is the state at the beginning, `s` one that was reached, `fetched` are the octets of the steps so far and `noted` their items, `os` the octets
-- of one step, `i` is an instruction.
use Rattle.std.specs.Prelude.{◌≡◌, ◌≤◌, ℕ, ◌+◌, true, List, [], ◌++◌, length, slice_get, Some, Result, Ok, Err}
use Rattle.std.specs.Io.KnownBytes.{Consumes, IsAtEnd}
use Rattle.nd_base.specs.declared.octets.Order.{Order}
use Rattle.nd_base.specs.declared.TheConstants.{STREAM_LIMIT}
use Rattle.nd_base.specs.Over.{SourceOver, HasRisen}
use Rattle.nd_types.specs.Number.{AreOctets}
use Rattle.nd_value.specs.declared.item.Home.{Home}
use Rattle.nd_value.specs.declared.item.Item.{Item}
use Rattle.nd_grammar.specs.declared.reason.Reason.{Reason}
use Rattle.nd_grammar.specs.declared.reason.Reason.TheVariants as reason
use Rattle.ndr_code.specs.declared.instr.Instr.{Instr}
use Rattle.ndr_code.specs.declared.lists.EnumList.{EnumList}
use Rattle.nd_base.specs.declared.intake.IntakeFault.{IntakeFault}
use Rattle.nd_base.specs.declared.intake.IntakeFault.TheVariants as intake
use Rattle.ndr_decoder_laws.specs.steps.Steps.{State, Want, refused, whole, wants, step}
use Rattle.ndr_decoder_laws.specs.steps.StepItems.{step_items}
use Rattle.ndr_decoder_laws.specs.steps.Good.{HasOctets, IsCut, IsTooLong}
use Rattle.ndr_decoder_laws.specs.runs.Reaching.{Reaches}
use Rattle.ndr_decoder_state.specs.declared.fault.DecodeFault.{DecodeFault}
use Rattle.ndr_decoder_state.specs.declared.fault.DecodeFault.TheVariants as fault
use Rattle.ndr_decoder_state.specs.declared.fault.Progress.{Progress}
use Rattle.ndr_decoder_state.specs.declared.fault.Progress.TheVariants as progress
use Rattle.ndr_decoder_state.specs.Notes.{NotesSeen, all_noted, ticks}

-- ## Ends

-- between two states the items were logged; each of them but the gaps is counted, and each cell that got its number
abbrev pub IsLogged : List Item → State → State → NotesSeen → Type 0
IsLogged noted s0 s n = (n.log_now ≡ all_noted noted n.log) × (n.steps_now + length s0.cells ≡ n.steps + ticks noted + length s.cells)

-- the same where memory failed: fewer may be counted
abbrev pub IsLoggedPart : List Item → State → State → NotesSeen → Type 0
IsLoggedPart noted s0 s n = (n.log_now ≡ all_noted noted n.log) × (n.steps_now + length s0.cells ≤ n.steps + ticks noted + length s.cells)

-- so many octets were taken from the source by steps, and their items were noted
pub record Moves (values : List EnumList) (order : Order) (code : List Instr) (h : Home) (s0 : State) (source : SourceOver) (notes : NotesSeen)
    (s1 : State) : Type 0 where
  pub fetched : List ℕ
  pub noted : List Item
  pub reached : Reaches values order code h s0 fetched noted s1
  pub left : Consumes source.left source.left_now fetched
  pub logged : IsLogged noted s0 s1 notes

-- where a run ends: after so many octets, at this state and this instruction, of which some octets came
pub record End (values : List EnumList) (order : Order) (code : List Instr) (h : Home) (s0 : State) (source : SourceOver) : Type 0 where
  pub fetched : List ℕ
  pub noted : List Item
  pub os : List ℕ
  pub s : State
  pub i : Instr
  pub reached : Reaches values order code h s0 fetched noted s
  pub there : slice_get code s.pc ≡ Some i
  pub octets : AreOctets os
  pub left : Consumes source.left source.left_now (fetched ++ os)

module _ (values : List EnumList) (order : Order) (code : List Instr) (h : Home) (s0 : State) (source : SourceOver) (notes : NotesSeen)
    (s1 : State) where
  -- the value is whole: the last step, which is noted too, has come to it
  abbrev pub EndsWhole : Type 0
  EndsWhole =
      (e : End values order code h s0 source)
      × (HasOctets (wants values e.i e.s) e.os e.s.at
      × ((step values order e.os e.i e.s ≡ whole s1) × IsLogged (e.noted ++ step_items order h e.os e.i e.s) s0 s1 notes))

  -- the octets are refused: the last step is, or there is no step because its octets do not come, or would end past the limit of a stream
  abbrev pub EndsBad : ℕ → Reason → Type 0
  EndsBad place reason.TooLong =
      (e : End values order code h s0 source)
      × (IsTooLong (wants values e.i e.s) e.s.at × ((e.os ≡ []) × ((place ≡ STREAM_LIMIT) × IsLogged e.noted s0 e.s notes)))
  EndsBad place reason.Truncated =
      (e : End values order code h s0 source)
      × (IsCut (wants values e.i e.s) e.os e.s.at
      × ((place ≡ e.s.at + length e.os) × ((source.ended_now ≡ true) × (IsAtEnd source.left_now × IsLogged e.noted s0 e.s notes))))
  EndsBad place why =
      (e : End values order code h s0 source)
      × (HasOctets (wants values e.i e.s) e.os e.s.at × ((step values order e.os e.i e.s ≡ refused place why) × IsLogged e.noted s0 e.s notes))

  -- where the source failed, the octets of the next step are not all there
  abbrev pub EndsUnread : Type 0
  EndsUnread = (e : End values order code h s0 source) × (IsCut (wants values e.i e.s) e.os e.s.at × IsLogged e.noted s0 e.s notes)

  -- where memory failed, it has come through some steps
  abbrev pub EndsCutOff : Type 0
  EndsCutOff = (e : End values order code h s0 source) × IsLoggedPart e.noted s0 e.s notes

  abbrev pub EndsFault : DecodeFault → Type 0
  EndsFault (fault.Bad place why) = EndsBad place why
  EndsFault fault.ReadFault = EndsUnread × HasRisen source.faults
  EndsFault fault.Memory = EndsCutOff

  -- what one turn comes to, which is a step, or the steps of a row of numbers
  abbrev pub Turns : Result Progress DecodeFault → Type 0
  Turns (Ok progress.More) = Moves values order code h s0 source notes s1
  Turns (Ok progress.Whole) = EndsWhole
  Turns (Err e) = EndsFault e

  -- what a run comes to
  abbrev pub Ends : Result (Unit {0}) DecodeFault → Type 0
  Ends (Ok u) = EndsWhole
  Ends (Err e) = EndsFault e

-- what a fault of the intake says of a stream
abbrev pub stream_answer : Result (Unit {0}) IntakeFault → Result (Unit {0}) DecodeFault
stream_answer (Ok u) = Ok u
stream_answer (Err intake.Memory) = Err fault.Memory
stream_answer (Err intake.ReadFault) = Err fault.ReadFault
stream_answer (Err intake.TooLong) = Err (fault.Bad STREAM_LIMIT reason.TooLong)
stream_answer (Err (intake.Truncated place)) = Err (fault.Bad place reason.Truncated)

-- ## Octets of one step

-- What fetching the octets that a step wants at a place comes to, where `os` are those that came: they would end past the limit of a stream, or the
-- source has ended, or failed, before the last of them.
abbrev pub FetchesBad : Want → ℕ → SourceOver → List ℕ → ℕ → Reason → Type 0
FetchesBad w at source os place reason.TooLong = IsTooLong w at × ((os ≡ []) × (place ≡ STREAM_LIMIT))
FetchesBad w at source os place reason.Truncated = IsCut w os at × ((place ≡ at + length os) × ((source.ended_now ≡ true) × IsAtEnd source.left_now))
FetchesBad w at source os place why = ⊥

abbrev pub Fetches : Want → ℕ → SourceOver → List ℕ → Result (Unit {0}) DecodeFault → Type 0
Fetches w at source os (Ok u) = HasOctets w os at
Fetches w at source os (Err (fault.Bad place why)) = FetchesBad w at source os place why
Fetches w at source os (Err fault.ReadFault) = IsCut w os at × HasRisen source.faults
Fetches w at source os (Err fault.Memory) = Unit {0}
