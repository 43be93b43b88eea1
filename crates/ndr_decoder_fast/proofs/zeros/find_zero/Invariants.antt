use Rattle.std.proofs.Common.{◌≡◌, ◌+◌, drop}
use Rattle.ndr_decoder_fast.specs.Strings.{first_zero}
use Rattle.ndr_decoder_fast.proofs.zeros.find_zero.Given as goal

abbrev pub invariant-loop-at : goal.invariant-loop-at
invariant-loop-at l = first_zero l.octets ≡ l.at + first_zero (drop l.at l.octets)
