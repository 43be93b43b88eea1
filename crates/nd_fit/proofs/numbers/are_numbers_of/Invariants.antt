use Rattle.std.proofs.Common.{take}
use Rattle.nd_fit.specs.Numbers.{AreNumbersOf}
use Rattle.nd_fit.proofs.numbers.are_numbers_of.Given as goal

abbrev pub invariant-loop-at : goal.invariant-loop-at
invariant-loop-at l = AreNumbersOf l.prim (take l.at l.vals)
