use Rattle.std.proofs.Common.{[], ap, sym}
use Rattle.nd_value.specs.Tree.{none, more, flat}
use Rattle.ndr_encoder_laws.specs.written.Run.{run}
use Rattle.ndr_encoder_laws.specs.turns.Turned.{STEPS}
use Rattle.ndr_encoder_laws.specs.chosen.Written.{value_at}
use Rattle.ndr_encoder_value.specs.Turns.{turn_pair, max_of}
use Rattle.ndr_encoder_value.proofs.Standing.{able_same, moves_same}
use Rattle.ndr_encoder_value.proofs.homes.write_turn.Goals as goal

pub write_known-requires-clause-able : goal.write_known-requires-clause-able
write_known-requires-clause-able g c =
    (c.args.code.now, max_of c.args.code.now c.args.fit.now.graph (turn_pair c.args.turn), c.args.chunk, c.requires.known, c.requires.able)

pub write_other-requires-clause-able : goal.write_other-requires-clause-able
write_other-requires-clause-able g c =
    able_same g.O.Output.can g.O.Output.whole c.args.out.now c.write_known.new.out _ _ (c.in_ok-write_known.ensures.stays c.if-branch.false)
    (ap (λ m. run c.args.code.now m c.args.chunk STEPS c.args.turn.start [] (flat (more (value_at c.args.fit.now.graph c.args.turn.home) none))) (sym c.max_before-max.ensures)) c.requires.able

pub returns-clause-written : goal.returns-clause-written
returns-clause-written g c =
    moves_same g.O.Output.can g.O.Output.whole c.args.out.now c.write_known.new.out c.write_other.new.out _ _ _ (c.in_ok-write_known.ensures.stays c.if-branch.false)
    (ap (λ m. run c.args.code.now m c.args.chunk STEPS c.args.turn.start [] (flat (more (value_at c.args.fit.now.graph c.args.turn.home) none))) (sym c.max_before-max.ensures))
    c.in_ok-write_other.ensures.written
