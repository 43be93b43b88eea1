use Rattle.std.proofs.Common.{None, Some, subst, refl}
use Rattle.nd_value.specs.Fitting.{setting_beside}
use Rattle.nd_lemmas.proofs.Lists.{item_at}
use Rattle.nd_fit.specs.Reach.{TellsReach}
use Rattle.nd_fit.proofs.Passed.{passed_few, passed_names, passed_reached, passed_unreached}
use Rattle.nd_fit.proofs.fitting.unreached_cell.Goals as goal

pub unreached-requires-clause-few_roots : goal.unreached-requires-clause-few_roots
unreached-requires-clause-few_roots c =
    let i = c.args.interface.now in
    let (o, there) = item_at i.operations c.args.op c.requires.known in
    passed_few i c.args.op o c.args.side c.args.flat.now i.legal.few_params there (c.requires.local o None there)

pub unreached-requires-clause-names : goal.unreached-requires-clause-names
unreached-requires-clause-names c =
    let i = c.args.interface.now in
    let (o, there) = item_at i.operations c.args.op c.requires.known in
    passed_names (setting_beside i o c.args.side None) c.args.flat.now (c.requires.local o None there)

pub returns-in-Some-clause-first : goal.returns-in-Some-clause-first
returns-in-Some-clause-first c o q there =
    let i = c.args.interface.now in
    let g = c.args.flat.now in
    let told : TellsReach g (Some c.in-Some.cell) = subst (TellsReach g) c.in-Some.is c.in_ok-cell.ensures in (
      c.in-Some.cell.0,
      passed_unreached (setting_beside i o c.args.side q) g (c.requires.local o q there) i.legal.enumerators c.requires.few_nodes c.in-Some.cell told,
      refl,
      refl,
      refl,
    )

pub returns-in-None-clause-none : goal.returns-in-None-clause-none
returns-in-None-clause-none c o q there =
    let i = c.args.interface.now in
    let g = c.args.flat.now in
    passed_reached (setting_beside i o c.args.side q) g (c.requires.local o q there) i.legal.enumerators c.requires.few_nodes
    (subst (TellsReach g) c.in-None.is c.in_ok-cell.ensures)
