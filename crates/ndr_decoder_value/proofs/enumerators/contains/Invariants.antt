use Rattle.std.proofs.Common.{◌≡◌, drop}
use Rattle.std.specs.List.{list_any}
use Rattle.std.specs.Ordering.{int_eq}
use Rattle.ndr_decoder_value.proofs.enumerators.contains.Given as goal

abbrev pub invariant-loop-at : goal.invariant-loop-at
invariant-loop-at l = list_any (int_eq l.fn.number) l.values ≡ list_any (int_eq l.fn.number) (drop l.at l.values)
