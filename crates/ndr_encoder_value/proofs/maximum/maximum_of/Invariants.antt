use Rattle.std.proofs.Common.{◌≡◌, ◌+◌, ◌*◌, ◌<◌, ◌^◌, length}
use Rattle.nd_value.specs.Tree.{flat}
use Rattle.ndr_encoder_laws.specs.maximum.LastPart.{last_max}
use Rattle.ndr_encoder_value.proofs.maximum.maximum_of.Given as goal

abbrev pub invariant-loop-seen : goal.invariant-loop-seen
invariant-loop-seen l = record {
  max : last_max l.due (flat l.walk) ≡ last_max 1 (flat l.initial.walk);
  small : l.due + length (flat l.walk) * 2 ^ 32 < 2 ^ 64;
}

abbrev pub decreases-loop-seen : goal.decreases-loop-seen
decreases-loop-seen l = length (flat l.walk)
