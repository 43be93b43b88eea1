use Rattle.std.proofs.Common.{drop}
use Rattle.nd_misfits.proofs.Numbered.{PlacedFrom}
use Rattle.nd_misfits.proofs.numbers.place_all.Given as goal

abbrev pub invariant-loop-at : goal.invariant-loop-at
invariant-loop-at l = PlacedFrom (drop l.at l.roots) l.fn.numbers.items l.numbers.items
