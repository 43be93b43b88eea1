use Rattle.nd_value.specs.Tree.{flat}
use Rattle.ndr_encoder_value.proofs.StructElements.{able_next, next_went}
use Rattle.ndr_encoder_value.proofs.struct_arrays.write_elements.Goals as goal

pub write_struct-requires-clause-able : goal.write_struct-requires-clause-able
write_struct-requires-clause-able g c =
    able_next g.O.Output.can g.O.Output.whole c.args.of.now c.args.count c.loop-at._at (flat c.args.walk.now) (flat c.loop-at.walk) c.args.out.now c.loop-at.out c.loop-at-test.true c.loop-at.invariant
    c.requires.able

pub loop-at-preserved : goal.loop-at-preserved
loop-at-preserved g c =
    next_went g.O.Output.can g.O.Output.whole c.args.of.now c.args.count c.loop-at._at (flat c.args.walk.now) (flat c.loop-at.walk) c.args.out.now c.loop-at.out c.loop-at-test.true c.loop-at.invariant
    c.write_struct.new.out (flat c.write_struct.new.walk) c.in_ok-write_struct.ensures.rest c.in_ok-write_struct.ensures.written
