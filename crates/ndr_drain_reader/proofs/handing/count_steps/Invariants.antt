use Rattle.std.proofs.Common.{◌≡◌, ◌+◌}
use Rattle.ndr_drain_reader.proofs.handing.count_steps.Given as goal

abbrev pub invariant-loop-step : goal.invariant-loop-step
invariant-loop-step g l = g.L.Ledger.number l.steps ≡ g.L.Ledger.number l.initial.steps + l._step
