use Rattle.std.proofs.Common.{arith}
use Rattle.command_sample.specs.Interface.{take}
use Rattle.command_sample.proofs.Fits.{few_cells, few_nodes, never_at, take_is}
use Rattle.command_sample.proofs.sampling.fitted.Goals as goal

pub fit-requires-clause-few_cells : goal.fit-requires-clause-few_cells
fit-requires-clause-few_cells c =
    let few = few_cells c.args.seed c.args.count c.in_ok-graph.graph c.requires.some c.requires.few c.in_ok-graph.ensures in
    omega (arith, few)

pub fit-requires-clause-few_nodes : goal.fit-requires-clause-few_nodes
fit-requires-clause-few_nodes c = few_nodes c.args.seed c.args.count c.in_ok-graph.graph c.requires.some c.requires.few c.in_ok-graph.ensures

pub unreachable-requires : goal.unreachable-requires
unreachable-requires c =
    let e = c.in-Err-At-default in
    never_at c.args.interface.now c.args.seed c.args.count c.requires.interface c.requires.some c.requires.few c.in_ok-graph.graph c.in_ok-graph.ensures
    e.field-0-0 e.field-0-0-0 e.field-0-0-1 e.field-0-0-2 e.field-0-0-is (e.ensures.not_conforming take (take_is c.args.interface.now c.requires.interface))
