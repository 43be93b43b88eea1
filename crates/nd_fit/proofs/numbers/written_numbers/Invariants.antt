use Rattle.std.proofs.Common.{◌≡◌, take}
use Rattle.nd_fit.specs.Numbers.{numbers_of, written_all}
use Rattle.nd_fit.proofs.numbers.written_numbers.Given as goal

abbrev pub invariant-loop-at : goal.invariant-loop-at
invariant-loop-at l = l.octets ≡ written_all l.prim (numbers_of (take l.at l.vals))
