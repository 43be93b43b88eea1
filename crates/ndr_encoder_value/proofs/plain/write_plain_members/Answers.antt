use Rattle.std.proofs.Common.{◌+◌, drop}
use Rattle.nd_value.specs.Tree.{flat}
use Rattle.ndr_encoder_laws.specs.written.Run.{later}
use Rattle.ndr_encoder_output.specs.Structs.{members_pieces}
use Rattle.ndr_encoder_value.proofs.Going.{able_from, able_on}
use Rattle.ndr_encoder_value.proofs.NextMembers.{member_first}
use Rattle.ndr_encoder_value.proofs.plain.write_plain_members.Goals as goal

pub write_plain_member-requires : goal.write_plain_member-requires
write_plain_member-requires g c =
    let rest = members_pieces (drop (c.loop-at.at + 1) c.args.members.now) (later (flat c.loop-at.nodes)) in (
      rest,
      able_from g.O.Output.can g.O.Output.whole _ _ _ (member_first c.args.members.now c.loop-at.at _ (flat c.loop-at.nodes) c.loop-at-test.true)
          (able_on g.O.Output.can g.O.Output.whole _ _ _ _ c.loop-at.invariant c.requires),
    )
