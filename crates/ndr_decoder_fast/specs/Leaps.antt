-- What steps come to that are taken in one go.
-- `s0` is the state before them, `s1` the one after, `source` the source over the call, `steps` and `steps_now` the count of steps before and after.
use Rattle.std.specs.Prelude.{◌≡◌, ◌≤◌, ℕ, ◌+◌, true, false, Bool, List, ◌++◌, length, slice_get, Some, Result, Ok, Err}
use Rattle.std.specs.Io.KnownBytes.{Consumes}
use Rattle.nd_base.specs.declared.octets.Memory.{Memory}
use Rattle.nd_base.specs.declared.octets.Order.{Order}
use Rattle.nd_base.specs.Over.{SourceOver}
use Rattle.nd_types.specs.Number.{AreOctets}
use Rattle.nd_value.specs.declared.item.Home.{Home}
use Rattle.nd_value.specs.declared.item.Item.{Item}
use Rattle.nd_grammar.specs.declared.reason.Reason.{Reason}
use Rattle.ndr_code.specs.declared.instr.Instr.{Instr}
use Rattle.ndr_code.specs.declared.lists.EnumList.{EnumList}
use Rattle.ndr_decoder_laws.specs.steps.Steps.{State, refused, step, wants}
use Rattle.ndr_decoder_laws.specs.steps.Good.{HasOctets}
use Rattle.ndr_decoder_laws.specs.runs.Reaching.{Reaches}
use Rattle.ndr_decoder_fast.specs.declared.fault.LeapFault.{LeapFault}
use Rattle.ndr_decoder_fast.specs.declared.fault.LeapFault.TheVariants as leap
use Rattle.ndr_decoder_fast.specs.Faults.{reason_of}
use Rattle.ndr_decoder_state.specs.Notes.{ticks}

module _ (values : List EnumList) (order : Order) (code : List Instr) (h : Home) (s0 : State) (source : SourceOver) (steps steps_now : ℕ)
    (s1 : State) where
  -- so many octets were taken from the source by steps; each of their items but the gaps is counted, and each cell that got its number
  pub record Leapt : Type 0 where
    pub fetched : List ℕ
    pub noted : List Item
    pub reached : Reaches values order code h s0 fetched noted s1
    pub left : Consumes source.left source.left_now fetched
    pub counted : steps_now + length s0.cells ≡ steps + ticks noted + length s1.cells

  -- nothing was done
  pub record Stays : Type 0 where
    pub state : s1 ≡ s0
    pub left : source.left_now ≡ source.left
    pub counted : steps_now ≡ steps

  -- where memory failed so many octets were taken by steps and some more may have been, and no more is counted than these steps have
  pub record GivesUp : Type 0 where
    pub fetched : List ℕ
    pub noted : List Item
    pub s : State
    pub reached : Reaches values order code h s0 fetched noted s
    pub os : List ℕ
    pub octets : AreOctets os
    pub left : Consumes source.left source.left_now (fetched ++ os)
    pub counted : steps_now + length s0.cells ≤ steps + ticks noted + length s.cells

  -- the octets of the step after those that were taken are refused
  pub record Refuses (place : ℕ) (why : Reason) : Type 0 where
    pub fetched : List ℕ
    pub noted : List Item
    pub s : State
    pub reached : Reaches values order code h s0 fetched noted s
    pub os : List ℕ
    pub octets : AreOctets os
    pub left : Consumes source.left source.left_now (fetched ++ os)
    pub counted : steps_now + length s0.cells ≡ steps + ticks noted + length s.cells
    pub i : Instr
    pub there : slice_get code s.pc ≡ Some i
    pub wanted : HasOctets (wants values i s) os s.at
    pub refusal : step values order os i s ≡ refused place why

  -- whether steps were taken
  abbrev pub Leaps : Result Bool LeapFault → Type 0
  Leaps (Ok true) = Leapt
  Leaps (Ok false) = Stays
  Leaps (Err (leap.Bad place why)) = Refuses place (reason_of why)
  Leaps (Err leap.Memory) = GivesUp

  -- the same where nothing but memory can fail
  abbrev pub LeapsOrGivesUp : Result Bool Memory → Type 0
  LeapsOrGivesUp (Ok true) = Leapt
  LeapsOrGivesUp (Ok false) = Stays
  LeapsOrGivesUp (Err e) = GivesUp

-- One step of an instruction was taken, or nothing was done, whatever the code is, where the instruction is at the state's address; or memory failed.
abbrev pub TakesStep : Order → Instr → State → SourceOver → ℕ → ℕ → State → Result Bool Memory → Type 0
TakesStep order i s0 source steps steps_now s1 r =
    (values : List EnumList) (code : List Instr) (h : Home) → slice_get code s0.pc ≡ Some i
    → LeapsOrGivesUp values order code h s0 source steps steps_now s1 r
