use Rattle.std.proofs.Common.{◌≡◌, subst, arith}
use Rattle.command_sample.proofs.Drawing.{Drawn, pushed, over}
use Rattle.command_sample.proofs.nodes.nodes.Goals as goal

pub loop-at-preserved : goal.loop-at-preserved
loop-at-preserved c =
    pushed c.args.count c.args.seed c.loop-at.at c.loop-at.state c.next-value.result c.next-state.result c.loop-at.cells c.push.new.self _ c.loop-at.invariant
    c.next-value.ensures c.next-state.ensures c.in_ok-cell.ensures c.in-Ok.ensures.ok

pub returns : goal.returns
returns c =
    let le = c.loop-at.auto.at-end in
    let past = c.loop-at-test.false in
    let e : c.loop-at.at ≡ c.args.count = omega (arith, le, past) in
    over c.args.count c.args.seed c.loop-at.state c.loop-at.cells (subst (λ at. Drawn c.args.count c.args.seed at c.loop-at.state c.loop-at.cells) e c.loop-at.invariant)
