-- What the step of draining a source answers: the octets of a value are taken.
-- `w` is a setting, `s` a source over a step, `e` are the ends over it.
use Rattle.std.specs.Prelude.{◌≡◌, ℕ, List, length}
use Rattle.std.specs.Io.KnownBytes.{Consumes}
use Rattle.nd_base.specs.declared.octets.Order.{Order}
use Rattle.nd_base.specs.Over.{SourceOver, HasRisen}
use Rattle.nd_value.specs.declared.value.Graph.{Graph}
use Rattle.nd_value.specs.Setting.{Setting}
use Rattle.ndr_drain_laws.specs.parts.Parts.{without_pipes}
use Rattle.ndr_pipe.specs.Ends.{EndsSeen}
use Rattle.ndr_drain.specs.declared.fault.DrainFault.TheVariants as fault
use Rattle.command_drain.specs.Printed.{AreEnough, ArePipesGiven, IsNotDrained}
use Rattle.command_refusals.specs.declared.refusal.Refusal.{Refusal}
use Rattle.command_refusals.specs.declared.refusal.Refusal.TheVariants.{Memory, ReadFault, BadOctets, EndFailed, TooFewEnds}
use Rattle.command_refusals.specs.declared.refusal.OctetsFault.TheVariants.{Refused}

-- the octets that were taken, so many, are a stream of a graph whose pipes were given, and which is kept with every pipe empty
pub record IsTaken (s : SourceOver) (e : EndsSeen) (w : Setting) (order : Order) (taken : ℕ) (kept : Graph) : Type 0 where
  pub octets : List ℕ
  pub left : Consumes s.left s.left_now octets
  pub taken_is : taken ≡ length octets
  pub graph : Graph
  pub pipes : ArePipesGiven w order octets graph e
  pub kept_is : kept ≡ without_pipes w graph

-- why they were not taken
abbrev pub IsNotTaken : SourceOver → EndsSeen → Setting → Order → Refusal → Type 0
IsNotTaken s e w order ReadFault = HasRisen s.faults × AreEnough w e × IsNotDrained s e w order fault.ReadFault
IsNotTaken s e w order Memory = IsNotDrained s e w order fault.Memory
IsNotTaken s e w order (BadOctets place (Refused why)) = AreEnough w e × IsNotDrained s e w order (fault.Bad place why)
IsNotTaken s e w order (EndFailed which) = AreEnough w e × IsNotDrained s e w order (fault.EndFailed which)
IsNotTaken s e w order (TooFewEnds wanted found) = IsNotDrained s e w order (fault.TooFewEnds wanted found)
IsNotTaken s e w order _ = ⊥
