use Rattle.std.proofs.Common.{arith}
use Rattle.ndr_encoder_value.proofs.Following.{members_more}
use Rattle.ndr_encoder_value.proofs.runs.call_members.Goals as goal

pub loop-i-preserved : goal.loop-i-preserved
loop-i-preserved c =
    members_more c.args.code.now c.args.at c.loop-i.i c.args.members.now _ c.loop-i.invariant (let h = c.loop-i-test.true in omega (arith, h)) (c.calls_member.ensures c.if-not-calls_member.false)
