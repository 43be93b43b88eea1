-- The items that a call notes, and the steps that it counts: each item but a gap, and each cell that gets its number.
-- `xs` are items, `n` is what was noted and counted over a call, `o` what a step comes to.
use Rattle.std.specs.Prelude.{◌≡◌, ◌≤◌, ℕ, ◌+◌, ◌*◌, ℤ, List, [], ◌∷◌, length, Result, Ok, Err}
use Rattle.nd_value.specs.Logged.{Logged, noted, ticks_of}
use Rattle.nd_value.specs.declared.item.Home.{Home}
use Rattle.nd_value.specs.declared.item.Item.{Item}
use Rattle.nd_value.specs.declared.item.ItemKind.TheVariants as item
use Rattle.ndr_decoder_laws.specs.steps.Steps.{State, Outcome, goes}
use Rattle.ndr_decoder_laws.specs.steps.StepItems.{item_here}
use Rattle.ndr_decoder_state.specs.declared.fault.DecodeFault.{DecodeFault}
use Rattle.ndr_decoder_state.specs.declared.fault.DecodeFault.TheVariants as fault

-- a log with items more
abbrev pub all_noted : List Item → Logged → Logged
all_noted [] g = g
all_noted (x ∷ xs) g = all_noted xs (noted x g)

abbrev pub ticks : List Item → ℕ
ticks [] = 0
ticks (x ∷ xs) = ticks_of x.kind + ticks xs

-- the log, the count of steps and the number of cells before and after
pub record NotesSeen : Type 0 where
  pub log : Logged
  pub log_now : Logged
  pub steps : ℕ
  pub steps_now : ℕ
  pub cells : ℕ
  pub cells_now : ℕ

abbrev pub notes_seen : Logged → Logged → ℕ → ℕ → ℕ → ℕ → NotesSeen
notes_seen log log_now steps steps_now cells cells_now =
    record { log = log; log_now = log_now; steps = steps; steps_now = steps_now; cells = cells; cells_now = cells_now }

-- Where memory failed nothing of a step was noted or counted. Or all its items were, with a cell at most: then it was not refused.
pub data IsNotedPart (o : Outcome) (xs : List Item) (n : NotesSeen) : Type 0 where
  nothing_noted : n.log_now ≡ n.log → n.steps_now ≤ n.steps → IsNotedPart o xs n
  all_are_noted : (s : State) → o ≡ goes s → n.log_now ≡ all_noted xs n.log → n.steps_now + n.cells ≤ n.steps + ticks xs + length s.cells
      → IsNotedPart o xs n

-- all items of a step that comes to this outcome were noted and counted, with the cells; nothing, where the octets are refused
abbrev pub Noted : {T : Type 0} → Outcome → List Item → NotesSeen → Result T DecodeFault → Type 0
Noted o xs n (Ok t) = (n.log_now ≡ all_noted xs n.log) × (n.steps_now + n.cells ≡ n.steps + ticks xs + n.cells_now)
Noted o xs n (Err (fault.Bad place why)) = (n.log_now ≡ n.log) × (n.steps_now ≡ n.steps)
Noted o xs n (Err fault.ReadFault) = ⊥
Noted o xs n (Err fault.Memory) = IsNotedPart o xs n

-- the number that comes so many numbers after the next one in a row, each so wide
abbrev pub number_ahead : Home → State → ℕ → ℕ → ℤ → Item
number_ahead h s ahead wide value = item_here h (s.at + ahead * wide) item.Num wide value (length s.nodes + ahead)
