use Rattle.std.proofs.Common.{◌≡◌, drop}
use Rattle.ndr_encoder_laws.specs.written.Run.{target}
use Rattle.ndr_encoder_value.proofs.lookups.arm_at.Given as goal

abbrev pub invariant-loop-at : goal.invariant-loop-at
invariant-loop-at l = target (drop l.at l.code) l.tag ≡ target (drop l.from l.code) l.tag
