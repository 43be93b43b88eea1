use Rattle.std.proofs.Common.{◌≡◌, ◌+◌}
use Rattle.ndr_decoder_value.proofs.rows.count_more.Given as goal

abbrev pub invariant-loop : goal.invariant-loop
invariant-loop g l = g.L.Ledger.number l.steps ≡ g.L.Ledger.number l.fn.steps + l.counter
