use Rattle.std.proofs.Common.{arith}
use Rattle.nd_types.specs.Legal.{has_small_bound}
use Rattle.idl_interface.specs.Made.{has_few_parts, scene_in}
use Rattle.idl_interface.proofs.Defining.{own_passes, table_end}
use Rattle.idl_interface.proofs.definitions.type_table.Goals as goal

pub definition-requires-clause-bound : goal.definition-requires-clause-bound
definition-requires-clause-bound c =
    let p = c.args.program.now in
    own_passes has_small_bound (scene_in p) p.types.now.kinds p.numbers.now c.requires.program.numbers c.requires.bounds c.deref-own-items.result.now c.deref-own-items.ensures.value
    c.loop-own.own-index _ c.loop-own-test.true

pub definition-requires-clause-few : goal.definition-requires-clause-few
definition-requires-clause-few c =
    let p = c.args.program.now in
    own_passes has_few_parts (scene_in p) p.types.now.kinds p.numbers.now c.requires.program.numbers c.requires.few c.deref-own-items.result.now c.deref-own-items.ensures.value
    c.loop-own.own-index _ c.loop-own-test.true

pub returns-clause-made : goal.returns-clause-made
returns-clause-made c =
    let p = c.args.program.now in
    table_end (scene_in p) p.types.now.kinds p.numbers.now c.requires.program.numbers c.deref-own-items.result.now c.deref-own-items.ensures.value c.loop-own.own-index (omega arith) c.loop-own.table
    c.loop-own.invariant.0
