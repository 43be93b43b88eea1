use Rattle.std.proofs.Common.{◌≡◌, ◌<◌, ◌^◌, length, ap, sym, ◌∙◌, arith}
use Rattle.std.specs.Prelude.{pos}
use Rattle.std.proofs.lemmas.Int.{to_z_pos}
use mir.Syntax.{w128}
use Rattle.nd_value.specs.Tree.{trees, count}
use Rattle.nd_misfits.proofs.NodeTests.{count_trees}
use Rattle.nd_misfits.proofs.agreement.count.Goals as goal

pub returns-clause-exact : goal.returns-clause-exact
returns-clause-exact c =
    let low : c.len.result < 2 ^ 127 = omega (arith, c.len.type_inv) in
    to_z_pos w128 c.len.result low ∙ ap pos (c.len.ensures ∙ sym (count_trees c.args.vals.now))

pub returns-clause-few : goal.returns-clause-few
returns-clause-few c =
    let n : count (trees c.args.vals.now) ≡ length c.args.vals.now = count_trees c.args.vals.now in
    omega (arith, n, c.len.ensures, c.len.type_inv)
