-- What is reached by steps.
-- `s0` is the state at the beginning, `s` one that was reached, `fetched` are the octets of the steps so far and `noted` their items, `os` the octets
-- of one step, `i` is an instruction.
use Rattle.std.specs.Prelude.{◌≡◌, ◌≤◌, ◌<◌, ◌^◌, ℕ, ◌+◌, List, [], ◌++◌, length, slice_get, Some}
use Rattle.nd_base.specs.declared.octets.Order.{Order}
use Rattle.nd_base.specs.declared.TheConstants.{STREAM_LIMIT}
use Rattle.nd_types.specs.Number.{AreOctets}
use Rattle.nd_value.specs.declared.item.Home.{Home}
use Rattle.nd_value.specs.declared.item.Item.{Item}
use Rattle.ndr_code.specs.declared.instr.Instr.{Instr}
use Rattle.ndr_code.specs.declared.lists.EnumList.{EnumList}
use Rattle.ndr_decoder_laws.specs.steps.Steps.{State, IsInner, goes, wants, step}
use Rattle.ndr_decoder_laws.specs.steps.StepItems.{step_items}
use Rattle.ndr_decoder_laws.specs.steps.Good.{HasOctets}

module _ (values : List EnumList) (order : Order) (code : List Instr) (h : Home) (s0 : State) where
  -- each step gets the octets that it wants, and is not refused
  pub data Reaches : List ℕ → List Item → State → Type 0 where
    begins : Reaches [] [] s0
    steps_to : (fetched os : List ℕ) (noted : List Item) (s next : State) (i : Instr) → Reaches fetched noted s → slice_get code s.pc ≡ Some i
        → HasOctets (wants values i s) os s.at → AreOctets os → step values order os i s ≡ goes next
        → Reaches (fetched ++ os) (noted ++ step_items order h os i s) next

-- A state at which the code can go on: it is at an instruction of a home's value, and its counts fit in 32 bits.
pub record IsSafe (code : List Instr) (s : State) : Type 0 where
  pub i : Instr
  pub there : slice_get code s.pc ≡ Some i
  pub inner : IsInner i
  pub within : s.at ≤ STREAM_LIMIT
  pub few_nodes : length s.nodes + 8192 < 2 ^ 32
  pub few_cells : length s.cells + 1 < 2 ^ 32
