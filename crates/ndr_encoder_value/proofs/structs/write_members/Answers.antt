use Rattle.std.proofs.Common.{◌+◌, drop, ap, sym}
use Rattle.nd_value.specs.Tree.{flat}
use Rattle.ndr_encoder_laws.specs.written.Run.{later}
use Rattle.ndr_encoder_output.specs.Structs.{members_pieces}
use Rattle.ndr_encoder_value.proofs.Going.{able_from, able_on, moves_from, moves_to, moves_on}
use Rattle.ndr_encoder_value.proofs.NextMembers.{member_first, after_more}
use Rattle.ndr_encoder_value.proofs.structs.write_members.Goals as goal

pub write_member-requires : goal.write_member-requires
write_member-requires g c =
    let rest = members_pieces (drop (c.loop-member.member-index + 1) c.args.members.now) (later (flat c.loop-member.walk)) in (
      rest,
      able_from g.O.Output.can g.O.Output.whole _ _ _ (member_first c.args.members.now c.loop-member.member-index _ (flat c.loop-member.walk) c.loop-member-test.true)
          (able_on g.O.Output.can g.O.Output.whole _ _ _ _ c.loop-member.invariant.written c.requires),
    )

pub loop-member-preserved : goal.loop-member-preserved
loop-member-preserved g c =
    let rest = members_pieces (drop (c.loop-member.member-index + 1) c.args.members.now) (later (flat c.loop-member.walk)) in
    record {
      written =
          moves_to g.O.Output.can g.O.Output.whole _ _ _ rest _ (ap (members_pieces (drop (c.loop-member.member-index + 1) c.args.members.now)) (sym c.in_ok-write_member.ensures.rest))
          (moves_on g.O.Output.can g.O.Output.whole _ _ _ _ _ _ c.loop-member.invariant.written
          (moves_from g.O.Output.can g.O.Output.whole _ _ _ _ _ (member_first c.args.members.now c.loop-member.member-index _ (flat c.loop-member.walk) c.loop-member-test.true)
          (c.in_ok-write_member.ensures.written rest)));
      rest = after_more c.loop-member.member-index (flat c.args.walk.now) (flat c.loop-member.walk) _ c.loop-member.invariant.rest c.in_ok-write_member.ensures.rest;
    }
