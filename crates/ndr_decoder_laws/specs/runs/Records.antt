-- Structs of numbers, read in one go.
-- `code` is that of a plan, `pc` an address, `at` a place, `node` how many nodes came before, `fs` are the members of a struct, `os` octets.
use Rattle.std.specs.Prelude.{◌≡◌, ◌⊎◌, ℕ, ◌+◌, zero, suc, nat_lt, if◌then◌else◌, List, [], ◌∷◌, ◌++◌, length, take, drop, slice_get, Some}
use Rattle.nd_base.specs.declared.octets.Order.{Order}
use Rattle.nd_types.specs.declared.types.Primitive.{Primitive}
use Rattle.nd_types.specs.declared.types.TypeId.{TypeId}
use Rattle.nd_types.specs.Number.{value_of_octets}
use Rattle.nd_types.specs.Table.{width}
use Rattle.nd_value.specs.declared.item.Home.{Home}
use Rattle.nd_value.specs.declared.item.Item.{Item}
use Rattle.nd_value.specs.declared.item.ItemKind.TheVariants as item
use Rattle.nd_value.specs.Tree as tree
use Rattle.nd_value.specs.Tree.{Flat}
use Rattle.nd_grammar.specs.Entry.{gap}
use Rattle.ndr_code.specs.declared.instr.Instr.{Instr}
use Rattle.ndr_code.specs.declared.instr.Instr.TheVariants as op
use Rattle.ndr_code.specs.declared.lists.EnumList.{EnumList}
use Rattle.ndr_decoder_laws.specs.declared.frame.Frame.{Frame}
use Rattle.ndr_decoder_laws.specs.declared.frame.Frame.TheVariants as frame
use Rattle.ndr_decoder_laws.specs.steps.Steps.{State, begun, wants}
use Rattle.ndr_code.specs.Fields.{prim_of}
use Rattle.ndr_decoder_laws.specs.steps.StepItems.{gap_items, item_here}
use Rattle.ndr_decoder_laws.specs.steps.Good.{IsCut}
use Rattle.ndr_decoder_laws.specs.runs.Reaching.{Reaches}

-- a member that is a number: the multiple that its gap goes to, and its primitive
pub record Slot : Type 0 where
  pub to : ℕ
  pub prim : Primitive

-- ## The code

-- a number of this primitive, and the end of the run
abbrev pub IsNumberAt : List Instr → ℕ → Primitive → Type 0
IsNumberAt code pc p = (of : TypeId) × ((slice_get code pc ≡ Some (op.Num of)) × ((prim_of of.0 ≡ p) × (slice_get code (pc + 1) ≡ Some op.Ret)))

-- the run of a member is its number alone, which needs no gap, or a gap and the number
abbrev pub IsSlotRun : List Instr → ℕ → Slot → Type 0
IsSlotRun code run f = ((f.to ≡ 1) × IsNumberAt code run f.prim) ⊎ ((slice_get code run ≡ Some (op.Align f.to)) × IsNumberAt code (run + 1) f.prim)

-- a call of a member
abbrev pub CallsSlot : List Instr → ℕ → Slot → Type 0
CallsSlot code pc f = (run : ℕ) × ((slice_get code pc ≡ Some (op.Call run)) × IsSlotRun code run f)

-- the calls of these members
abbrev pub AreSlots : List Instr → ℕ → List Slot → Type 0
AreSlots code pc [] = Unit {0}
AreSlots code pc (f ∷ fs) = CallsSlot code pc f × AreSlots code (pc + 1) fs

-- a struct of these members, from its `record` to its `close`
pub record IsNumberRecord (code : List Instr) (pc : ℕ) (fs : List Slot) : Type 0 where
  pub opens : slice_get code pc ≡ Some (op.Record (length fs))
  pub slots : AreSlots code (pc + 1) fs
  pub closes : slice_get code (pc + 1 + length fs) ≡ Some op.Close

-- ## The octets

-- how many octets the members have from a place on, with their gaps
abbrev pub slots_len : ℕ → List Slot → ℕ
slots_len at [] = 0
slots_len at (f ∷ fs) = gap at f.to + (width f.prim + slots_len (at + gap at f.to + width f.prim) fs)

-- the octets of the first member's number, and those after it
abbrev pub slot_octets : ℕ → Slot → List ℕ → List ℕ
slot_octets at f os = take (width f.prim) (drop (gap at f.to) os)

abbrev pub after_slot : ℕ → Slot → List ℕ → List ℕ
after_slot at f os = drop (width f.prim) (drop (gap at f.to) os)

-- the nodes of the numbers
abbrev pub slot_flats : Order → ℕ → List Slot → List ℕ → List Flat
slot_flats order at [] os = []
slot_flats order at (f ∷ fs) os =
    (tree.Num (value_of_octets order f.prim (slot_octets at f os)), 0) ∷ slot_flats order (at + gap at f.to + width f.prim) fs (after_slot at f os)

-- the items of the gaps and the numbers
abbrev pub slot_items : Order → Home → ℕ → ℕ → List Slot → List ℕ → List Item
slot_items order h at node [] os = []
slot_items order h at node (f ∷ fs) os =
    gap_items h at (take (gap at f.to) os)
    ++ item_here h (at + gap at f.to) item.Num (width f.prim) (value_of_octets order f.prim (slot_octets at f os)) node
    ∷ slot_items order h (at + gap at f.to + width f.prim) (node + 1) fs (after_slot at f os)

-- ## Elements one after the other

-- the run of each element is the struct, or a gap and the struct; it ends after the struct
pub record IsRecordRun (code : List Instr) (run pc to : ℕ) (fs : List Slot) : Type 0 where
  pub own : IsNumberRecord code pc fs
  pub run_begins : ((run ≡ pc) × (to ≡ 1)) ⊎ ((run + 1 ≡ pc) × (slice_get code run ≡ Some (op.Align to)))
  pub run_ends : slice_get code (pc + 1 + length fs + 1) ≡ Some op.Ret

-- where the gap after an element ends
abbrev pub next_place : ℕ → ℕ → List Slot → ℕ
next_place at to fs = at + slots_len at fs + gap (at + slots_len at fs) to

-- the octets after an element and the gap that follows
abbrev pub after_record : ℕ → ℕ → List Slot → List ℕ → List ℕ
after_record at to fs os = drop (gap (at + slots_len at fs) to) (drop (slots_len at fs) os)

-- how many octets an element has from a place on, and `n` more after it, each with a gap before it
abbrev pub records_len : ℕ → ℕ → List Slot → ℕ → ℕ
records_len at to fs zero = slots_len at fs
records_len at to fs (suc n) = slots_len at fs + (gap (at + slots_len at fs) to + records_len (next_place at to fs) to fs n)

-- their nodes
abbrev pub record_flats : Order → ℕ → ℕ → List Slot → ℕ → List ℕ → List Flat
record_flats order at to fs zero os = (tree.Rec, length fs) ∷ slot_flats order at fs os
record_flats order at to fs (suc n) os =
    ((tree.Rec, length fs) ∷ slot_flats order at fs (take (slots_len at fs) os))
    ++ record_flats order (next_place at to fs) to fs n (after_record at to fs os)

-- their items
abbrev pub record_items : Order → Home → ℕ → ℕ → ℕ → List Slot → ℕ → List ℕ → List Item
record_items order h at node to fs zero os = slot_items order h at (node + 1) fs os
record_items order h at node to fs (suc n) os =
    slot_items order h at (node + 1) fs (take (slots_len at fs) os)
    ++ (gap_items h (at + slots_len at fs) (take (gap (at + slots_len at fs) to) (drop (slots_len at fs) os))
    ++ record_items order h (next_place at to fs) (node + 1 + length fs) to fs n (after_record at to fs os))

-- ## The state

-- the elements of an array
abbrev pub IsAmongElements : Frame → Type 0
IsAmongElements (frame.Elements left run back) = Unit {0}
IsAmongElements f = ⊥

-- after elements that are structs of numbers, past the `close` of the last: these nodes, within this frame
abbrev pub records_read : ℕ → ℕ → List Flat → Frame → State → State
records_read pc at xs top s = record {
  pc = pc;
  phase = begun;
  at = at;
  max = s.max;
  max_at = s.max_at;
  tag = s.tag;
  carrier = s.carrier;
  top = top;
  stack = s.stack;
  nodes = s.nodes ++ xs;
  own = s.own;
  members = s.members;
  firsts = s.firsts;
  fresh = s.fresh;
  cells = s.cells;
  numbers = s.numbers;
}

-- after a struct of numbers that is an element of an array, past its `close`
abbrev pub record_read : Order → List Slot → List ℕ → State → State
record_read order fs os s = records_read (s.pc + 1 + length fs + 1) (s.at + length os) ((tree.Rec, length fs) ∷ slot_flats order s.at fs os) s.top s

-- ## Octets that end before the last element does

-- the items of the gaps and numbers of a struct, as far as their octets have come
abbrev pub slots_came : Order → Home → ℕ → ℕ → List Slot → List ℕ → List Item
slots_came order h at node [] os = []
slots_came order h at node (f ∷ fs) os =
    if nat_lt (length os) (gap at f.to) then []
    else gap_items h at (take (gap at f.to) os)
    ++ (if nat_lt (length os) (gap at f.to + width f.prim) then []
    else item_here h (at + gap at f.to) item.Num (width f.prim) (value_of_octets order f.prim (slot_octets at f os)) node
    ∷ slots_came order h (at + gap at f.to + width f.prim) (node + 1) fs (after_slot at f os))

-- the same of elements
abbrev pub records_came : Order → Home → ℕ → ℕ → ℕ → List Slot → ℕ → List ℕ → List Item
records_came order h at node to fs zero os = slots_came order h at (node + 1) fs os
records_came order h at node to fs (suc n) os =
    slots_came order h at (node + 1) fs (take (slots_len at fs) os)
    ++ (if nat_lt (length os) (slots_len at fs + gap (at + slots_len at fs) to) then []
    else gap_items h (at + slots_len at fs) (take (gap (at + slots_len at fs) to) (drop (slots_len at fs) os))
    ++ records_came order h (next_place at to fs) (node + 1 + length fs) to fs n (after_record at to fs os))

-- Octets from a place on that end within a step: those before it are taken by steps, with these items and no new cell, and those that are left are
-- fewer than it wants.
pub record EndsWithin (values : List EnumList) (order : Order) (code : List Instr) (h : Home) (s0 : State) (at : ℕ) (cells : List ℕ)
    (fetched os : List ℕ) (noted items : List Item) : Type 0 where
  pub taken : List ℕ
  pub rest : List ℕ
  pub last : State
  pub i : Instr
  pub octets : taken ++ rest ≡ fetched ++ os
  pub reached : Reaches values order code h s0 taken (noted ++ items) last
  pub there : slice_get code last.pc ≡ Some i
  pub cut : IsCut (wants values i last) rest last.at
  pub place : last.at + length rest ≡ at + length os
  pub same_cells : last.cells ≡ cells
