use Rattle.std.proofs.Common.{◌<◌, ◌^◌, length, sym, subst}
use Rattle.nd_value.specs.declared.value.Graph.{Graph}
use Rattle.nd_value.specs.Names.{HasNames}
use Rattle.nd_graph.specs.Order.{IsAllNamed}
use Rattle.nd_graph.proofs.Renumbered.{few_roots, fit_names, fit_all_named}
use Rattle.nd_graph.proofs.Alike.{same_decided}
use Rattle.nd_graph.proofs.sameness.same.Goals as goal

pub order_of-requires-clause-few_roots : goal.order_of-requires-clause-few_roots
order_of-requires-clause-few_roots c = subst (λ (g : Graph). length g.roots < 2 ^ 32) (sym c.flat.ensures.graph) (few_roots c.args.a.now c.flat.ensures.conforms)

pub order_of-requires-clause-names : goal.order_of-requires-clause-names
order_of-requires-clause-names c = subst HasNames (sym c.flat.ensures.graph) (fit_names c.args.a.now c.flat.ensures.conforms)

pub order_of-requires-clause-all : goal.order_of-requires-clause-all
order_of-requires-clause-all c = subst IsAllNamed (sym c.flat.ensures.graph) (fit_all_named c.args.a.now c.flat.ensures.conforms)

pub order_of-requires-2-clause-few_roots : goal.order_of-requires-2-clause-few_roots
order_of-requires-2-clause-few_roots c = subst (λ (g : Graph). length g.roots < 2 ^ 32) (sym c.flat-2.ensures.graph) (few_roots c.args.b.now c.flat-2.ensures.conforms)

pub order_of-requires-2-clause-names : goal.order_of-requires-2-clause-names
order_of-requires-2-clause-names c = subst HasNames (sym c.flat-2.ensures.graph) (fit_names c.args.b.now c.flat-2.ensures.conforms)

pub order_of-requires-2-clause-all : goal.order_of-requires-2-clause-all
order_of-requires-2-clause-all c = subst IsAllNamed (sym c.flat-2.ensures.graph) (fit_all_named c.args.b.now c.flat-2.ensures.conforms)

pub returns : goal.returns
returns c =
    same_decided c.args.a.now c.args.b.now c.flat.ensures.conforms c.flat-2.ensures.conforms c.flat.result.now c.flat-2.result.now c.flat-3.result.now c.flat-4.result.now
    c.in_ok-left.left.numbers.items c.in_ok-left.left.cells.items c.in_ok-right.right.numbers.items c.in_ok-right.right.cells.items c.same_graphs.result
    c.flat.ensures.graph c.flat-2.ensures.graph c.flat-3.ensures.graph c.flat-4.ensures.graph c.in_ok-left.ensures c.in_ok-right.ensures c.same_graphs.ensures
