use Rattle.std.proofs.Common.{◌≡◌, drop}
use Rattle.ndr_code.specs.Code.{enumerators}
use Rattle.ndr_decoder_value.proofs.enumerators.carrier_of.Given as goal

abbrev pub invariant-loop-at : goal.invariant-loop-at
invariant-loop-at l = enumerators l.values l.of.0 ≡ enumerators (drop l.at l.values) l.of.0
