use Rattle.std.proofs.Common.{◌≡◌, drop}
use Rattle.nd_value.specs.Tree.{flat}
use Rattle.ndr_encoder_output.specs.Outputs.{Moves}
use Rattle.ndr_encoder_laws.specs.written.Run.{after}
use Rattle.ndr_encoder_output.specs.Structs.{members_pieces}
use Rattle.ndr_encoder_value.proofs.structs.write_members.Given as goal

abbrev pub invariant-loop-member : goal.invariant-loop-member
invariant-loop-member g l = record {
  written :
      Moves g.O.Output.can g.O.Output.whole l.initial.out l.out (members_pieces l.members (flat l.initial.walk)) (members_pieces (drop l.member-index l.members) (flat l.walk));
  rest : flat l.walk ≡ after l.member-index (flat l.initial.walk);
}
