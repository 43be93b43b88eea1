use Rattle.std.proofs.Common.{◌<◌, List, length, sym, subst}
use Rattle.nd_types.specs.declared.types.Operation.{Operation}
use Rattle.test_graph.proofs.tests.fitted.Goals as goal

pub fit-requires-clause-known : goal.fit-requires-clause-known
fit-requires-clause-known c = subst (λ (os : List Operation). c.args.op < length os) (sym c.requires.operations) c.requires.known

pub fit-requires-clause-few_cells : goal.fit-requires-clause-few_cells
fit-requires-clause-few_cells c = c.requires.small.few_cells

pub fit-requires-clause-few_nodes : goal.fit-requires-clause-few_nodes
fit-requires-clause-few_nodes c = c.requires.small.few_nodes
