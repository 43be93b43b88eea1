use Rattle.std.proofs.Common.{◌≡◌, drop}
use Rattle.ndr_encoder_laws.specs.written.Run.{past_checks}
use Rattle.ndr_encoder_output.proofs.lookups.past_checks.Given as goal

abbrev pub invariant-loop-at : goal.invariant-loop-at
invariant-loop-at l = past_checks (drop l.at l.code) l.at ≡ past_checks (drop l.from l.code) l.from
