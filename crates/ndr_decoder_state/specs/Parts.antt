-- Parts of steps, as the code has functions for them.
-- `s` is a state, `x` what is kept of a node.
use Rattle.std.specs.Prelude.{ℕ, ◌+◌, [], ◌∷◌, ◌++◌, length, take, None}
use Rattle.nd_value.specs.Tree as tree
use Rattle.ndr_decoder_laws.specs.declared.first.First.{First}
use Rattle.ndr_decoder_laws.specs.declared.frame.Frame.{Frame}
use Rattle.ndr_decoder_laws.specs.declared.frame.Frame.TheVariants as frame
use Rattle.ndr_decoder_laws.specs.steps.Steps.{State, begun, next, jumped, pushed, popped, with_node, with_frames, with_members, own_by, firsts_by}

-- ## Homes

-- at the beginning of a home that was just opened, at this run
abbrev pub started : ℕ → State → State
started run s = record {
  pc = run;
  phase = begun;
  at = s.at;
  max = 0;
  max_at = None;
  tag = s.tag;
  carrier = s.carrier;
  top = frame.Home;
  stack = [];
  nodes = [];
  own = None;
  members = [];
  firsts = [];
  fresh = [];
  cells = s.cells;
  numbers = s.numbers;
}

-- ## Nodes

-- what is kept of a node that was added
abbrev pub kept : First → State → State
kept x s = record {
  pc = s.pc;
  phase = s.phase;
  at = s.at;
  max = s.max;
  max_at = s.max_at;
  tag = s.tag;
  carrier = s.carrier;
  top = s.top;
  stack = s.stack;
  nodes = s.nodes;
  own = own_by s.top x s.own;
  members = s.members;
  firsts = firsts_by s.top x s.firsts;
  fresh = s.fresh;
  cells = s.cells;
  numbers = s.numbers;
}

-- ## Structs and elements

abbrev pub record_begun : ℕ → State → State
record_begun n s = next (pushed (frame.Record 0 (length s.members)) (with_node (tree.Rec, n) None s))

abbrev pub record_closed : ℕ → State → State
record_closed first s = next (popped (with_members (take first s.members) (take first s.firsts) s))

abbrev pub member_called : ℕ → ℕ → State → State
member_called first run s =
    jumped run
    (with_frames (frame.Record (s.pc + 1) first) s.stack
    (with_members (s.members ++ record { node = length s.nodes; pending = length s.fresh } ∷ []) s.firsts s))

abbrev pub elements_frame : ℕ → ℕ → ℕ → Frame
elements_frame left run back = frame.Elements left run back
