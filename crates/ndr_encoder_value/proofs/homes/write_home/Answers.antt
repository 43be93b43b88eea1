use Rattle.std.proofs.Common.{refl}
use Rattle.ndr_encoder_value.proofs.Standing.{able_same, moves_same}
use Rattle.ndr_encoder_value.proofs.homes.write_home.Goals as goal

pub write_known-requires-clause-able : goal.write_known-requires-clause-able
write_known-requires-clause-able g c = (c.args.code.now, c.args.max, c.args.chunk, c.requires.known, c.requires.able)

pub write_other-requires-clause-able : goal.write_other-requires-clause-able
write_other-requires-clause-able g c =
    able_same g.O.Output.can g.O.Output.whole c.args.out.now c.write_known.new.out _ _ (c.in_ok-write_known.ensures.stays c.if-branch.false) refl c.requires.able

pub returns-clause-written : goal.returns-clause-written
returns-clause-written g c =
    moves_same g.O.Output.can g.O.Output.whole c.args.out.now c.write_known.new.out c.write_other.new.out _ _ _ (c.in_ok-write_known.ensures.stays c.if-branch.false) refl
    c.in_ok-write_other.ensures.written
