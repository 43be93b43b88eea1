use Rattle.std.proofs.Common.{◌≡◌, ◌≤◌, length}
use Rattle.ndr_encoder_output.specs.Structs.{members_of, HasBegun}
use Rattle.ndr_encoder_output.proofs.members.struct_of.Given as goal

abbrev pub invariant-loop-turn : goal.invariant-loop-turn
invariant-loop-turn l = record {
  begun : HasBegun l.code l.start l.at l.of.align (members_of l.of);
  whole : l.of.count ≤ length l.of.members;
  count : l.of.count ≡ l._turn;
}
