use Rattle.std.proofs.Common.{take, drop, map, ◌++◌}
use Rattle.nd_flat.specs.Building.{closed}
use Rattle.nd_flat.specs.Built.{HasGraph}
use Rattle.nd_fit.specs.Steps.{blank}
use Rattle.nd_fit.proofs.graph.fill_all.Given as goal

abbrev pub invariant-loop-at : goal.invariant-loop-at
invariant-loop-at l = HasGraph (record { roots = (closed l.initial.builder).roots; cells = take l.at l.cells ++ map blank (drop l.at l.cells) }) l.initial.builder l.builder
