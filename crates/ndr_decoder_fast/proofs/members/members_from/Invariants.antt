use Rattle.ndr_decoder_fast.proofs.Slots.{AreFound}
use Rattle.ndr_decoder_fast.proofs.members.members_from.Given as goal

abbrev pub invariant-loop-i : goal.invariant-loop-i
invariant-loop-i l = AreFound l.code l.at l.i l.members
