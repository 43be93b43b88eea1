use Rattle.std.proofs.Common.{arith}
use Rattle.command_why.proofs.Shares.{shared_whole}
use Rattle.command_why.proofs.near.shared.Goals as goal

pub returns : goal.returns
returns c =
    shared_whole c.args.one.now c.args.other.now c.loop-count.count c.lesser-least.result (omega (arith, c.loop-count-test.false)) (omega (arith, c.loop-count.auto.count-end))
    c.lesser-least.ensures.either c.loop-count.invariant
