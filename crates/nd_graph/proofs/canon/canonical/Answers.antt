use Rattle.std.proofs.Common.{◌<◌, ◌^◌, length, sym, subst}
use Rattle.nd_value.specs.declared.value.Graph.{Graph}
use Rattle.nd_value.specs.Names.{HasNames}
use Rattle.nd_graph.specs.Order.{IsAllNamed}
use Rattle.nd_graph.proofs.Renumbered.{few_roots, fit_names, fit_all_named, renumbered_fits, order_as, answered}
use Rattle.nd_graph.proofs.canon.canonical.Goals as goal

pub order_of-requires-clause-few_roots : goal.order_of-requires-clause-few_roots
order_of-requires-clause-few_roots c = subst (λ (g : Graph). length g.roots < 2 ^ 32) (sym c.flat.ensures.graph) (few_roots c.args.fit.now c.flat.ensures.conforms)

pub order_of-requires-clause-few_cells : goal.order_of-requires-clause-few_cells
order_of-requires-clause-few_cells c = subst (λ (g : Graph). length g.cells < 2 ^ 32) (sym c.flat.ensures.graph) c.flat.ensures.conforms.conforms.few_cells

pub order_of-requires-clause-names : goal.order_of-requires-clause-names
order_of-requires-clause-names c = subst HasNames (sym c.flat.ensures.graph) (fit_names c.args.fit.now c.flat.ensures.conforms)

pub order_of-requires-clause-all : goal.order_of-requires-clause-all
order_of-requires-clause-all c = subst IsAllNamed (sym c.flat.ensures.graph) (fit_all_named c.args.fit.now c.flat.ensures.conforms)

pub renumbered-requires-clause-there : goal.renumbered-requires-clause-there
renumbered-requires-clause-there c =
    (order_as c.args.fit.now c.flat.result.now c.in_ok-order.order.numbers.items c.in_ok-order.order.cells.items c.as_slice.result.now c.as_slice-2.result.now
    c.flat.ensures.graph c.as_slice.ensures.value c.as_slice-2.ensures.value c.in_ok-order.ensures).there

pub renumbered-requires-clause-fits : goal.renumbered-requires-clause-fits
renumbered-requires-clause-fits c =
    renumbered_fits c.args.fit.now c.flat.ensures.conforms c.as_slice.result.now c.as_slice-2.result.now
    (order_as c.args.fit.now c.flat.result.now c.in_ok-order.order.numbers.items c.in_ok-order.order.cells.items c.as_slice.result.now c.as_slice-2.result.now
    c.flat.ensures.graph c.as_slice.ensures.value c.as_slice-2.ensures.value c.in_ok-order.ensures)

pub returns : goal.returns
returns c =
    answered c.args.fit.now c.flat.ensures.conforms c.as_slice.result.now c.as_slice-2.result.now
    (order_as c.args.fit.now c.flat.result.now c.in_ok-order.order.numbers.items c.in_ok-order.order.cells.items c.as_slice.result.now c.as_slice-2.result.now
    c.flat.ensures.graph c.as_slice.ensures.value c.as_slice-2.ensures.value c.in_ok-order.ensures)
    c.renumbered.result c.renumbered.ensures
