use Rattle.std.proofs.Common.{drop}
use Rattle.nd_value.specs.Tree.{flat}
use Rattle.ndr_encoder_output.specs.Outputs.{Moves}
use Rattle.ndr_encoder_output.specs.Structs.{members_pieces}
use Rattle.ndr_encoder_value.proofs.plain.write_plain_members.Given as goal

abbrev pub invariant-loop-at : goal.invariant-loop-at
invariant-loop-at g l =
    Moves g.O.Output.can g.O.Output.whole l.initial.out l.out (members_pieces l.members (flat l.initial.nodes)) (members_pieces (drop l.at l.members) (flat l.nodes))
