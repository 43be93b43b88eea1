-- What an intake shows: which stream it reads, and how far it has read it.
use Rattle.std.specs.Prelude.{ℕ, Bool, true, false, Option}
use Rattle.nd_base.specs.declared.octets.Order.{Order}
use Rattle.nd_types.specs.declared.interface.Interface.{Interface}
use Rattle.nd_types.specs.declared.types.Operation.{Operation}
use Rattle.nd_types.specs.declared.types.Side.{Side}
use Rattle.nd_value.specs.declared.value.Graph.{Graph}
use Rattle.nd_value.specs.Fitting.{setting_beside}
use Rattle.nd_value.specs.Setting.{Setting}
use Rattle.nd_flat.specs.Building.{closed}
use Rattle.ndr_drain_laws.specs.parts.Parts.{Spot}
use Rattle.ndr_drain_reader.specs.declared.intake.Phase.{Phase}
use Rattle.ndr_drain_reader.specs.declared.intake.Phase.TheVariants.{Begun, Reading, Failed}
use Rattle.ndr_drain_reader.specs.declared.intake.Intake.{Intake}

pub record IntakeSeen : Type 0 where
  -- the stream: a side of an operation of an interface, in a byte order, beside a request or beside none
  pub interface : Interface
  pub op : ℕ
  pub side : Side
  pub order : Order
  pub given : Option Graph
  -- how far it was read: which call may come next, the graph that is kept, and the spot
  pub phase : Phase
  pub graph : Graph
  pub spot : Spot
  -- how many pipes are left
  pub left : ℕ

abbrev pub intake_seen : Intake → IntakeSeen
intake_seen i = record {
  interface = i.plan.now.tie;
  op = i.op;
  side = i.side;
  order = i.order;
  given = i.kept.given;
  phase = i.phase;
  graph = closed i.kept;
  spot = record { place = i.at; root = i.root; node = i.node };
  left = i.left;
}

-- the setting of the stream, whose operation is this one
abbrev pub setting_in : IntakeSeen → Operation → Setting
setting_in i o = setting_beside i.interface o i.side i.given

-- the same intake at another spot, with so many pipes left
abbrev pub moved_to : Spot → ℕ → IntakeSeen → IntakeSeen
moved_to s n i = record {
  interface = i.interface;
  op = i.op;
  side = i.side;
  order = i.order;
  given = i.given;
  phase = i.phase;
  graph = i.graph;
  spot = s;
  left = n;
}

-- whether a call has answered a fault
abbrev pub failed_by : Phase → Bool
failed_by Failed = true
failed_by Begun = false
failed_by Reading = false

abbrev pub is_failed : Intake → Bool
is_failed i = failed_by i.phase
