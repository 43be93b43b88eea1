use Rattle.std.proofs.Common.{◌<◌, List, length, refl, sym, subst}
use Rattle.nd_types.specs.declared.types.Operation.{Operation}
use Rattle.nd_types.specs.declared.types.Side.TheVariants as side
use Rattle.nd_value.specs.Fitting.{Fitting}
use Rattle.nd_value.specs.Request.{IsRequest}
use Rattle.test_graph.proofs.tests.misfit_beside.Goals as goal

pub fit-requires-clause-known : goal.fit-requires-clause-known
fit-requires-clause-known c = subst (λ (os : List Operation). c.args.op < length os) (sym c.requires.operations) c.requires.known

pub fit-requires-clause-few_cells : goal.fit-requires-clause-few_cells
fit-requires-clause-few_cells c = c.requires.small.few_cells

pub fit-requires-clause-few_nodes : goal.fit-requires-clause-few_nodes
fit-requires-clause-few_nodes c = c.requires.small.few_nodes

pub fit-requires-clause-request : goal.fit-requires-clause-request
fit-requires-clause-request c =
    subst (λ (f : Fitting). IsRequest c.args.interface.now c.args.op side.Out f) (sym c.in_ok-request.ensures)
    (record { interface = refl; op = refl; side = refl; judged = refl })
