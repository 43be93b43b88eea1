use Rattle.std.proofs.Common.{arith}
use Rattle.nd_types.specs.Legal.{has_names}
use Rattle.idl_interface.specs.Made.{scene_in}
use Rattle.idl_interface.proofs.Named.{pushed}
use Rattle.idl_interface.proofs.Operating.{noted_is_operation, operations_step, operations_end}
use Rattle.idl_interface.proofs.Limits.{parameters_few}
use Rattle.idl_interface.proofs.operations.all_operations.Goals as goal

pub loop-noted-preserved : goal.loop-noted-preserved
loop-noted-preserved c =
    let p = c.args.program.now in (
      operations_step (scene_in p) p.nodes.now p.types.now c.deref-noted-items.result.now c.loop-noted.noted-index c.noted-item.result c.requires.program.operations c.deref-noted-items.ensures.value
          (omega arith) c.noted-item.is c.in_ok-operation.operation c.in_ok-operation.ensures.made c.loop-noted.operations c.push.new.self c.in-Ok.ensures.ok _ c.loop-noted.invariant.0,
      pushed has_names c.loop-noted.operations c.push.new.self c.in_ok-operation.operation c.in-Ok.ensures.ok c.loop-noted.invariant.1 c.in_ok-operation.ensures.named,
    )

pub operation-requires-clause-noted : goal.operation-requires-clause-noted
operation-requires-clause-noted c =
    let p = c.args.program.now in
    noted_is_operation (scene_in p) p.nodes.now p.types.now c.deref-noted-items.result.now c.loop-noted.noted-index c.noted-item.result c.requires.program.operations c.deref-noted-items.ensures.value
    (omega arith) c.noted-item.is

pub operation-requires-clause-few : goal.operation-requires-clause-few
operation-requires-clause-few c =
    let p = c.args.program.now in
    parameters_few (scene_in p) p.nodes.now p.types.now c.deref-noted-items.result.now c.loop-noted.noted-index c.noted-item.result c.requires.program.operations c.requires.few
    c.deref-noted-items.ensures.value (omega arith) c.noted-item.is

pub returns-clause-made : goal.returns-clause-made
returns-clause-made c =
    let p = c.args.program.now in
    operations_end (scene_in p) p.nodes.now p.types.now c.deref-noted-items.result.now c.loop-noted.noted-index c.requires.program.operations c.deref-noted-items.ensures.value (omega arith)
    c.loop-noted.operations c.loop-noted.invariant.0
