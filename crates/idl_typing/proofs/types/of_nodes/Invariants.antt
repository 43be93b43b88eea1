use Rattle.idl_scope.specs.Seen.{known_in}
use Rattle.idl_typing.specs.Lookups.{AreTables}
use Rattle.idl_typing.specs.ReadTypes.{AreRead}
use Rattle.idl_typing.proofs.types.of_nodes.Given as goal

abbrev pub invariant-loop-index : goal.invariant-loop-index
invariant-loop-index l = AreRead (known_in l.scope) l.nodes l.index l.types l.names
