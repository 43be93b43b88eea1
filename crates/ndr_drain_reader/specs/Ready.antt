-- An intake as `begin` leaves it, and one whose head was read, as `head` and `chunk` leave it. Callers of these need not look inside.
-- `i` is the intake, `o` the operation.
use Rattle.std.specs.Prelude.{◌≡◌, ◌≤◌, ◌<◌, ◌+◌, ◌-◌, ◌*◌, length, Some}
use Rattle.std.specs.List.{slice_get}
use Rattle.nd_base.specs.declared.TheConstants.{STREAM_LIMIT}
use Rattle.nd_types.specs.declared.types.Operation.{Operation}
use Rattle.nd_types.specs.Roots.{roots_of}
use Rattle.nd_value.specs.Deferral.{before_pipes}
use Rattle.nd_value.specs.Fitting.{IsFit}
use Rattle.nd_flat.specs.Building.{CanClose, fitting}
use Rattle.ndr_code.specs.Code.{value_roots, line_at}
use Rattle.ndr_drain_reader.specs.declared.intake.Intake.{Intake}

-- the pipe that is next is the one of the next root and of the next line, and so many are left
pub record IsAtPipe (i : Intake) (o : Operation) : Type 0 where
  pub after_values : before_pipes (roots_of i.plan.now.tie.types i.side o) ≤ i.root
  pub all : i.root + i.left ≡ length (roots_of i.plan.now.tie.types i.side o)
  pub line : i.line
      ≡ line_at i.plan.now.tie.types i.plan.now.tie.operations i.op o i.side + length (value_roots (roots_of i.plan.now.tie.types i.side o)) + 1
      + (i.root - before_pipes (roots_of i.plan.now.tie.types i.side o))

-- nothing was read, and the first pipe is next
pub record IsAtHead (i : Intake) : Type 0 where
  pub known : i.op < length i.plan.now.tie.operations
  pub place : i.at ≡ 0
  pub node : i.node ≡ 1
  pub at_pipe : (o : Operation) → slice_get i.plan.now.tie.operations i.op ≡ Some o → IsAtPipe i o
  pub first : (o : Operation) → slice_get i.plan.now.tie.operations i.op ≡ Some o → i.root ≡ before_pipes (roots_of i.plan.now.tie.types i.side o)

pub record IsReady (i : Intake) : Type 0 where
  pub known : i.op < length i.plan.now.tie.operations
  -- the graph is built whole, for the side of the operation, and conforms
  pub whole : CanClose i.kept
  pub fits : IsFit (fitting i.kept)
  pub op : i.kept.op ≡ i.op
  pub side : i.kept.side ≡ i.side
  pub interface : i.kept.interface ≡ i.plan.now.tie
  -- the place is in the stream, and each octet paid for 32 nodes at most
  pub within : i.at ≤ STREAM_LIMIT
  pub one : 1 ≤ i.node
  pub few_nodes : i.node ≤ 32 * i.at + 1
  pub at_pipe : (o : Operation) → slice_get i.plan.now.tie.operations i.op ≡ Some o → IsAtPipe i o
