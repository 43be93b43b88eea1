use Rattle.std.proofs.Common.{map, drop, length, sym}
use Rattle.std.proofs.lemmas.Bool.{ltb-false}
use Rattle.idl_constructs.specs.SeenNodes.{seen_declared}
use Rattle.idl_interface.specs.Made.{parameter_by}
use Rattle.idl_interface.proofs.EachTyped.{each_end}
use Rattle.idl_interface.proofs.members.parameters_by.Goals as goal

pub returns-in_default-clause-made : goal.returns-in_default-clause-made
returns-in_default-clause-made c =
    each_end (parameter_by c.args.table.now) (map seen_declared (drop c.loop-index.index c.args.list.now)) c.args.types.now c.loop-index.index c.loop-index.parameters _
    (ltb-false c.loop-index.index (length c.args.types.now) (sym c.in_default.ensures.lookup.0)) c.loop-index.invariant.0
