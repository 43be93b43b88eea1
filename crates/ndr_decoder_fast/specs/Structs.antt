-- Structs of numbers and of unique and reference pointers, read in one go.
-- `code` is that of a plan, `pc` an address, `i` what is at an address, `at` a place, `f` a member, `s` a state, `os` octets.
use Rattle.std.specs.Prelude.{◌≡◌, ◌≤◌, ℕ, ◌+◌, Bool, true, false, ◌==◌, List, [], ◌∷◌, ◌++◌, length, drop, Option, Some, None, Result, Ok, Err}
use Rattle.nd_base.specs.declared.octets.Memory.{Memory}
use Rattle.nd_base.specs.declared.octets.Order.{Order}
use Rattle.nd_types.specs.declared.types.Class.{Class}
use Rattle.nd_types.specs.declared.types.Class.TheVariants.{Unique}
use Rattle.nd_types.specs.declared.types.TypeId.{TypeId}
use Rattle.nd_types.specs.Number.{unsigned, value_of_octets}
use Rattle.nd_value.specs.declared.item.Home.{Home}
use Rattle.nd_value.specs.declared.item.Item.{Item}
use Rattle.nd_value.specs.Tree as tree
use Rattle.nd_value.specs.Tree.{Flat}
use Rattle.nd_grammar.specs.Entry.{gap}
use Rattle.ndr_code.specs.declared.instr.Instr.{Instr}
use Rattle.ndr_code.specs.declared.lists.EnumList.{EnumList}
use Rattle.ndr_decoder_laws.specs.declared.first.First.{First}
use Rattle.ndr_decoder_laws.specs.declared.first.First.TheVariants as first
use Rattle.ndr_decoder_laws.specs.declared.first.Member.{Member}
use Rattle.ndr_decoder_laws.specs.declared.frame.Frame.TheVariants as frame
use Rattle.ndr_decoder_laws.specs.steps.Steps.{State, Owed, begun, firsts_by}
use Rattle.ndr_code.specs.declared.fields.Form.{Form}
use Rattle.ndr_code.specs.declared.fields.Form.TheVariants as form
use Rattle.ndr_code.specs.declared.fields.Field.{Field}
use Rattle.ndr_decoder_laws.specs.runs.Reaching.{Reaches}
use Rattle.ndr_decoder_state.specs.Notes.{ticks}

-- ## The state

-- a node of a member, with these pending referents and cells
abbrev pub with_part : Flat → List Owed → List ℕ → State → State
with_part x fresh cells s = record {
  pc = s.pc;
  phase = s.phase;
  at = s.at;
  max = s.max;
  max_at = s.max_at;
  tag = s.tag;
  carrier = s.carrier;
  top = s.top;
  stack = s.stack;
  nodes = s.nodes ++ x ∷ [];
  own = s.own;
  members = s.members;
  firsts = s.firsts;
  fresh = fresh;
  cells = cells;
  numbers = s.numbers;
}

-- a unique pointer of the number 0 is null
abbrev pub is_null : Class → ℕ → Bool
is_null Unique v = v == 0
is_null class v = false

-- any other names a new cell
abbrev pub cell_named : Bool → List ℕ → Option ℕ
cell_named true cells = None
cell_named false cells = Some (length cells + 1)

abbrev pub cells_with : Bool → TypeId → List ℕ → List ℕ
cells_with true to cells = cells
cells_with false to cells = cells ++ to.0 ∷ []

-- the referent of a pointer is pending
abbrev pub owed_with : Class → TypeId → ℕ → Option ℕ → List Owed → List Owed
owed_with class to run c fresh = fresh ++ record { class = class; to = to.0; run = run; cell = c; agreements = [] } ∷ []

abbrev pub pointer_read : Class → TypeId → ℕ → Bool → State → State
pointer_read class to run null s =
    with_part (tree.Ptr (cell_named null s.cells), 0) (owed_with class to run (cell_named null s.cells) s.fresh) (cells_with null to s.cells) s

-- the node, the pending referents and the cells after a member, by its octets without a gap
abbrev pub node_read : Order → Form → List ℕ → List ℕ → Flat
node_read order (form.Number p) os cells = (tree.Num (value_of_octets order p os), 0)
node_read order (form.Pointer class to run) os cells = (tree.Ptr (cell_named (is_null class (unsigned order os)) cells), 0)

abbrev pub owed_read : Order → Form → List ℕ → List ℕ → List Owed → List Owed
owed_read order (form.Number p) os cells fresh = fresh
owed_read order (form.Pointer class to run) os cells fresh = owed_with class to run (cell_named (is_null class (unsigned order os)) cells) fresh

abbrev pub cells_read : Order → Form → List ℕ → List ℕ → List ℕ
cells_read order (form.Number p) os cells = cells
cells_read order (form.Pointer class to run) os cells = cells_with (is_null class (unsigned order os)) to cells

abbrev pub form_read : Order → Form → List ℕ → State → State
form_read order f os s = with_part (node_read order f os s.cells) (owed_read order f os s.cells s.fresh) (cells_read order f os s.cells) s

-- at an address
abbrev pub at_address : ℕ → State → State
at_address pc s = record {
  pc = pc;
  phase = s.phase;
  at = s.at;
  max = s.max;
  max_at = s.max_at;
  tag = s.tag;
  carrier = s.carrier;
  top = s.top;
  stack = s.stack;
  nodes = s.nodes;
  own = s.own;
  members = s.members;
  firsts = s.firsts;
  fresh = s.fresh;
  cells = s.cells;
  numbers = s.numbers;
}

-- past so many octets, at the next call
abbrev pub moved : ℕ → State → State
moved n s = record {
  pc = s.pc + 1;
  phase = s.phase;
  at = s.at + n;
  max = s.max;
  max_at = s.max_at;
  tag = s.tag;
  carrier = s.carrier;
  top = s.top;
  stack = s.stack;
  nodes = s.nodes;
  own = s.own;
  members = s.members;
  firsts = s.firsts;
  fresh = s.fresh;
  cells = s.cells;
  numbers = s.numbers;
}

-- a member, by the octets of its gap and of what it is
abbrev pub field_read : Order → Field → List ℕ → State → State
field_read order f os s = moved (length os) (form_read order f.form (drop (gap s.at f.to) os) s)

-- within a struct that was begun at this state, at an address and a place: the members so far and what is kept of them
abbrev pub within : ℕ → ℕ → ℕ → List Member → List First → State → State
within pc at back ms xs s = record {
  pc = pc;
  phase = begun;
  at = at;
  max = s.max;
  max_at = s.max_at;
  tag = s.tag;
  carrier = s.carrier;
  top = frame.Record back (length s.members);
  stack = s.top ∷ s.stack;
  nodes = s.nodes;
  own = s.own;
  members = ms;
  firsts = xs;
  fresh = s.fresh;
  cells = s.cells;
  numbers = s.numbers;
}

-- what is kept of a struct that is begun is one for each member around it
abbrev pub IsLevel : State → Type 0
IsLevel s = length (firsts_by s.top first.Other s.firsts) ≡ length s.members

-- ## What was read

module _ (values : List EnumList) (order : Order) (code : List Instr) (h : Home) (s0 : State) (steps : ℕ) where
  -- so many octets were taken by steps, into a struct, with its frame around them; each item but the gaps is counted, and each cell
  pub record IsInside (fetched : List ℕ) (steps_now : ℕ) (s : State) : Type 0 where
    pub noted : List Item
    pub back : ℕ
    pub members : List Member
    pub firsts : List First
    pub reached : Reaches values order code h s0 fetched noted (within s.pc s.at back (s.members ++ members) (s.firsts ++ firsts) s)
    pub counted : steps_now + length s0.cells ≡ steps + ticks noted + length s.cells

  -- the struct was read
  pub record IsOver (os : List ℕ) (steps_now : ℕ) (s : State) : Type 0 where
    pub noted : List Item
    pub reached : Reaches values order code h s0 os noted s
    pub counted : steps_now + length s0.cells ≡ steps + ticks noted + length s.cells

  -- memory failed within it
  pub record IsStopped (os : List ℕ) (steps_now : ℕ) : Type 0 where
    pub fetched : List ℕ
    pub rest : List ℕ
    pub noted : List Item
    pub s : State
    pub octets : fetched ++ rest ≡ os
    pub reached : Reaches values order code h s0 fetched noted s
    pub counted : steps_now + length s0.cells ≤ steps + ticks noted + length s.cells

  abbrev pub StructRead : List ℕ → ℕ → State → Result (Unit {0}) Memory → Type 0
  StructRead os steps_now s (Ok u) = IsOver os steps_now s
  StructRead os steps_now s (Err e) = IsStopped os steps_now
