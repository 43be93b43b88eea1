use Rattle.std.proofs.Common.{take}
use Rattle.ndr_encoder_value.specs.Elements.{CallMembers}
use Rattle.ndr_encoder_value.proofs.runs.call_members.Given as goal

abbrev pub invariant-loop-i : goal.invariant-loop-i
invariant-loop-i l = CallMembers l.code l.at (take l.i l.members)
