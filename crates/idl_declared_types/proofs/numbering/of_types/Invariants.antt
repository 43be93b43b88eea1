use Rattle.idl_scope.specs.Known.{Known}
use Rattle.idl_declared_types.specs.SeenTypes.{scene_seen, IsTypes}
use Rattle.idl_declared_types.proofs.NeededNodes.{Reaches}
use Rattle.idl_declared_types.proofs.numbering.of_types.Given as goal

abbrev pub invariant-loop-at : goal.invariant-loop-at
invariant-loop-at l = (known : Known) → IsTypes (scene_seen known l.nodes) l.nodes l.types → Reaches known l.nodes l.types.kinds l.at l.numbers
