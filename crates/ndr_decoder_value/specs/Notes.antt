-- Items of parts of steps, as the code has functions for them.
-- `h` is the home, `s` the state before, `n` is what was noted and counted over a call.
use Rattle.std.specs.Prelude.{◌≡◌, ◌≤◌, ℕ, ◌+◌, pos, List, [], ◌∷◌, Result, Ok, Err}
use Rattle.nd_base.specs.declared.octets.Order.{Order}
use Rattle.nd_types.specs.declared.types.Primitive.{Primitive}
use Rattle.nd_value.specs.declared.item.Home.{Home}
use Rattle.nd_value.specs.declared.item.Item.{Item}
use Rattle.nd_value.specs.declared.item.ItemKind.TheVariants as item
use Rattle.ndr_decoder_laws.specs.steps.Steps.{State}
use Rattle.ndr_decoder_laws.specs.steps.StepItems.{next_item}
use Rattle.ndr_decoder_laws.specs.runs.Rows.{row_items}
use Rattle.ndr_decoder_state.specs.declared.fault.DecodeFault.{DecodeFault}
use Rattle.ndr_decoder_state.specs.declared.fault.DecodeFault.TheVariants as fault
use Rattle.ndr_decoder_state.specs.Notes.{NotesSeen, all_noted}

abbrev pub pointer_items : ℕ → Home → State → List Item
pointer_items number h s = next_item h s item.Number 4 (pos number) ∷ []

-- the first of the numbers of a row were noted, and at most so many counted
pub record IsRowPart (order : Order) (p : Primitive) (h : Home) (at node count : ℕ) (os : List ℕ) (n : NotesSeen) : Type 0 where
  pub some : ℕ
  pub few : some ≤ count
  pub log : n.log_now ≡ all_noted (row_items order p h at node some os) n.log
  pub steps : n.steps_now ≤ n.steps + some

-- so many numbers from a place and a node on were noted and counted; where memory failed, the first of them
abbrev pub RowNoted : Order → Primitive → Home → ℕ → ℕ → ℕ → List ℕ → NotesSeen → Result (Unit {0}) DecodeFault → Type 0
RowNoted order p h at node count os n (Ok u) = (n.log_now ≡ all_noted (row_items order p h at node count os) n.log) × (n.steps_now ≡ n.steps + count)
RowNoted order p h at node count os n (Err fault.Memory) = IsRowPart order p h at node count os n
RowNoted order p h at node count os n (Err _) = ⊥
