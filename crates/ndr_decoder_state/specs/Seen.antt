-- What contracts see of a machine, and what a step comes to.
-- `m` is a machine, `s` its state, `o` what a step comes to.
use Rattle.std.specs.Prelude.{◌≡◌, ℕ, List, ◌++◌, take, drop, map, reverse, Option, Result, Ok, Err}
use Rattle.nd_types.specs.declared.interface.Interface.{Interface}
use Rattle.nd_types.specs.declared.types.Side.{Side}
use Rattle.nd_value.specs.declared.item.Home.{Home}
use Rattle.nd_value.specs.declared.value.Graph.{Graph}
use Rattle.nd_value.specs.Tree.{Tree}
use Rattle.nd_value.specs.Setting.{cell_at}
use Rattle.nd_value.specs.Agreement.{Agreement}
use Rattle.nd_value.specs.Seen.{cell_number}
use Rattle.ndr_decoder_laws.specs.steps.Steps as steps
use Rattle.ndr_decoder_laws.specs.steps.Steps.{State, Outcome, goes, refused, whole}
use Rattle.ndr_decoder_state.specs.declared.fault.DecodeFault.{DecodeFault}
use Rattle.ndr_decoder_state.specs.declared.fault.DecodeFault.TheVariants as fault
use Rattle.ndr_decoder_state.specs.declared.fault.Progress.{Progress}
use Rattle.ndr_decoder_state.specs.declared.fault.Progress.TheVariants as progress
use Rattle.ndr_decoder_state.specs.declared.machine.Machine.{Machine}
use Rattle.ndr_decoder_state.specs.declared.machine.Owed.{Owed}
use Rattle.ndr_decoder_state.specs.declared.machine.Wanted.{Wanted}
use Rattle.ndr_decoder_state.specs.declared.machine.Phase.{Phase}
use Rattle.ndr_decoder_state.specs.declared.machine.Phase.TheVariants as at

-- ## The state

abbrev pub phase_of : Phase → steps.Phase
phase_of at.Begun = steps.begun
phase_of at.GapRead = steps.gap_read
phase_of (at.OffsetRead o) = steps.offset_read o
phase_of (at.CountRead c) = steps.count_read c

-- a pending referent, whose agreements are some of those that are kept
abbrev pub agreement_of : Wanted → Agreement
agreement_of w = record { attr = w.attr; wanted = w.wanted }

abbrev pub owed_of : List Wanted → Owed → steps.Owed
owed_of ws o = record {
  class = o.class;
  to = o.to.0;
  run = o.run;
  cell = cell_number o.cell;
  agreements = map agreement_of (take o.len (drop o.from ws));
}

-- agreements are kept after those that were
abbrev pub HasGrown : List Wanted → List Wanted → Type 0
HasGrown old new = (more : List Wanted) × (new ≡ old ++ more)

abbrev pub state_of : Machine → State
state_of m = record {
  pc = m.pc;
  phase = phase_of m.phase;
  at = m.at;
  max = m.max;
  max_at = m.max_at;
  tag = m.tag;
  carrier = m.carrier;
  top = m.top;
  stack = reverse m.stack.items;
  nodes = m.builder.nodes;
  own = m.own;
  members = m.members.items;
  firsts = m.firsts.items;
  fresh = map (owed_of m.wanted.items) m.fresh.items;
  cells = map (λ c. c.of) m.builder.graph.cells;
  numbers = m.referents;
}

-- ## What stays

-- what a home's value leaves as it is: the home, and of the graph the home that is open, the values that were read, and what the graph is for
pub record Outside : Type 0 where
  pub home : Home
  pub open_home : Option Home
  pub roots : List Tree
  pub value : ℕ → Tree
  pub op : ℕ
  pub side : Side
  pub interface : Interface
  pub given : Option Graph

abbrev pub outside : Machine → Outside
outside m = record {
  home = m.home;
  open_home = m.builder.home;
  roots = m.builder.graph.roots;
  value = cell_at m.builder.graph;
  op = m.builder.op;
  side = m.builder.side;
  interface = m.builder.interface;
  given = m.builder.given;
}

-- ## Outcomes

-- the machine did what this outcome says; out of memory says nothing
abbrev pub Comes : Outcome → Result Progress DecodeFault → State → Type 0
Comes o (Ok progress.More) s = o ≡ goes s
Comes o (Ok progress.Whole) s = o ≡ whole s
Comes o (Err (fault.Bad place why)) s = o ≡ refused place why
Comes o (Err fault.ReadFault) s = ⊥
Comes o (Err fault.Memory) s = Unit {0}

-- the same of an instruction after which there is more
abbrev pub Does : Outcome → Result (Unit {0}) DecodeFault → State → Type 0
Does o (Ok u) s = o ≡ goes s
Does o (Err (fault.Bad place why)) s = o ≡ refused place why
Does o (Err fault.ReadFault) s = ⊥
Does o (Err fault.Memory) s = Unit {0}
