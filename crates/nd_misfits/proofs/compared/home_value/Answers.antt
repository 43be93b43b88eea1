use Rattle.std.proofs.Common.{true, sym, arith}
use Rattle.nd_value.specs.Tree.{more, none}
use Rattle.nd_value.specs.Seen.{tree_of}
use Rattle.nd_value.specs.declared.item.Home.TheVariants as home
use Rattle.nd_misfits.proofs.SimpleValues.{all_simple, one_value}
use Rattle.nd_misfits.proofs.compared.home_value.Goals as goal

pub after_values-requires : goal.after_values-requires
after_values-requires c =
    let v = tree_of c.args.val.now in
    let inside = c.in-Some.inside in
    let q = all_simple true c.args.types.now (home.Root 0) c.args.graph.now c.args.of.0 inside 1 0 (more v none) (sym c.in-Some.ensures) c.requires.formed in
    omega (arith, one_value v inside q.many, c.requires.few)

pub returns-in-Some : goal.returns-in-Some
returns-in-Some c =
    let v = tree_of c.args.val.now in
    let inside = c.in-Some.inside in
    let q = all_simple true c.args.types.now (home.Root 0) c.args.graph.now c.args.of.0 inside 1 0 (more v none) (sym c.in-Some.ensures) c.requires.formed in
    (q.quiet.agree, omega (arith, one_value v inside q.many, c.after_values.ensures))
