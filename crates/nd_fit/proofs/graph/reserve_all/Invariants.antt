use Rattle.std.proofs.Common.{take}
use Rattle.nd_fit.specs.Steps.{AllReserved}
use Rattle.nd_fit.proofs.graph.reserve_all.Given as goal

abbrev pub invariant-loop-at : goal.invariant-loop-at
invariant-loop-at g l = AllReserved (take l.at l.cells) l.initial.builder l.builder
