-- Rows of numbers: elements of an array that are primitives without gaps between them, read in one go.
-- `s` is a state, `n` how many numbers, `os` are their octets.
use Rattle.std.specs.Prelude.{◌≡◌, ◌≤◌, ◌⊎◌, ℕ, ◌+◌, ◌-◌, zero, suc, List, [], ◌∷◌, ◌++◌, length, take, drop, slice_get, Some}
use Rattle.nd_base.specs.declared.octets.Order.{Order}
use Rattle.nd_types.specs.declared.types.Primitive.{Primitive}
use Rattle.nd_types.specs.Number.{value_of_octets}
use Rattle.nd_types.specs.Table.{width}
use Rattle.nd_value.specs.declared.item.Home.{Home}
use Rattle.nd_value.specs.declared.item.Item.{Item}
use Rattle.nd_value.specs.declared.item.ItemKind.TheVariants as item
use Rattle.nd_value.specs.Tree.{Flat}
use Rattle.nd_flat.specs.FlatForm.{row_values, num_flats}
use Rattle.ndr_code.specs.declared.instr.Instr.{Instr}
use Rattle.ndr_code.specs.declared.instr.Instr.TheVariants as op
use Rattle.ndr_decoder_laws.specs.declared.frame.Frame.{Frame}
use Rattle.ndr_decoder_laws.specs.declared.frame.Frame.TheVariants as frame
use Rattle.ndr_decoder_laws.specs.steps.Steps.{State, begun, jumped, past, done_after}
use Rattle.ndr_decoder_laws.specs.steps.StepItems.{item_here}

-- so many elements fewer are left
abbrev pub with_fewer : ℕ → Frame → Frame
with_fewer n (frame.Elements left run back) = frame.Elements (left - n) run back
with_fewer n f = f

-- so many elements are left after the one that is being read
abbrev pub HasLeft : ℕ → Frame → Type 0
HasLeft n (frame.Elements left run back) = n ≤ left
HasLeft n f = ⊥

-- nodes more, of elements of which so many fewer are left
abbrev pub with_row : List Flat → Frame → State → State
with_row xs top s = record {
  pc = s.pc;
  phase = s.phase;
  at = s.at;
  max = s.max;
  max_at = s.max_at;
  tag = s.tag;
  carrier = s.carrier;
  top = top;
  stack = s.stack;
  nodes = s.nodes ++ xs;
  own = s.own;
  members = s.members;
  firsts = s.firsts;
  fresh = s.fresh;
  cells = s.cells;
  numbers = s.numbers;
}

-- a row of so many numbers, of which the last is at its `ret`
abbrev pub row_read : Order → Primitive → ℕ → List ℕ → State → State
row_read order p n os s = done_after (length os) (with_row (num_flats (row_values order p n os)) (with_fewer (n - 1) s.top) s)

-- a row of so many numbers, of which the last has ended: the next one is due
abbrev pub row_passed : Order → Primitive → ℕ → List ℕ → State → State
row_passed order p n os s = jumped s.pc (past (length os) begun (with_row (num_flats (row_values order p n os)) (with_fewer n s.top) s))

-- the items of so many numbers, from a place and a node on
abbrev pub row_items : Order → Primitive → Home → ℕ → ℕ → ℕ → List ℕ → List Item
row_items order p h at node zero os = []
row_items order p h at node (suc n) os =
    item_here h at item.Num (width p) (value_of_octets order p (take (width p) os)) node
    ∷ row_items order p h (at + width p) (node + 1) n (drop (width p) os)

-- The elements of an array are numbers of this primitive, of which none but the first has a gap: `pc` is the address of their `num`. The run begins
-- there, or with a gap that is empty after a number.
abbrev pub IsNumberRun : List Instr → ℕ → ℕ → Primitive → Type 0
IsNumberRun code run pc p =
    (slice_get code (pc + 1) ≡ Some op.Ret) × (((run ≡ pc) × (width p ≡ 1)) ⊎ ((run + 1 ≡ pc) × (slice_get code run ≡ Some (op.Align (width p)))))

abbrev pub IsInRow : List Instr → ℕ → ℕ → Primitive → Frame → Type 0
IsInRow code n pc p (frame.Elements left run back) = (n ≤ left) × IsNumberRun code run pc p
IsInRow code n pc p f = ⊥
