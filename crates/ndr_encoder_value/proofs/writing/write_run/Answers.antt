use Rattle.std.proofs.Common.{◌-◌}
use Rattle.nd_value.specs.Tree.{flat}
use Rattle.ndr_encoder_value.proofs.Going.{turned, able_turn, over, ended, went}
use Rattle.ndr_encoder_value.proofs.writing.write_run.Goals as goal

pub step-requires : goal.step-requires
step-requires g c =
    able_turn g.O.Output.can g.O.Output.whole c.args.run.now.code.now c.args.run.now.max c.args.run.now.chunk c.loop-turn.pc c.loop-turn.frames
    (flat c.loop-turn.walk) _ _ c.args.most c.loop-turn._turn _ c.loop-turn-test.true c.requires c.loop-turn.invariant

pub returns-then-not-branch-clause-written : goal.returns-then-not-branch-clause-written
returns-then-not-branch-clause-written g c =
    ended g.O.Output.can g.O.Output.whole _ _ _ _ c.in_ok-step.field-0 c.if-not-branch.true
    (turned g.O.Output.can g.O.Output.whole c.args.run.now.code.now c.args.run.now.max c.args.run.now.chunk c.loop-turn.pc c.loop-turn.frames
    (flat c.loop-turn.walk) _ _ _ c.args.most c.loop-turn._turn _ _ _ c.in_ok-step.field-0 _ c.loop-turn-test.true c.loop-turn.invariant c.in_ok-step.ensures.moved)

pub loop-turn-preserved : goal.loop-turn-preserved
loop-turn-preserved g c =
    went g.O.Output.can g.O.Output.whole _ _ _ _ c.in_ok-step.field-0 c.if-not-branch.false
    (turned g.O.Output.can g.O.Output.whole c.args.run.now.code.now c.args.run.now.max c.args.run.now.chunk c.loop-turn.pc c.loop-turn.frames
    (flat c.loop-turn.walk) _ _ _ c.args.most c.loop-turn._turn _ _ _ c.in_ok-step.field-0 _ c.loop-turn-test.true c.loop-turn.invariant c.in_ok-step.ensures.moved)

pub returns-clause-written : goal.returns-clause-written
returns-clause-written g c =
    over g.O.Output.can g.O.Output.whole c.args.run.now.code.now c.args.run.now.max c.args.run.now.chunk c.loop-turn.pc c.loop-turn.frames
    (flat c.loop-turn.walk) _ _ c.args.most c.loop-turn._turn _ c.loop-turn-test.false c.loop-turn.invariant
