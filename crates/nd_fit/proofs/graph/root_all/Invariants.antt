use Rattle.std.proofs.Common.{take, ◌++◌}
use Rattle.nd_flat.specs.Building.{closed}
use Rattle.nd_flat.specs.Built.{HasGraph}
use Rattle.nd_fit.proofs.graph.root_all.Given as goal

abbrev pub invariant-loop-at : goal.invariant-loop-at
invariant-loop-at l = HasGraph (record { roots = (closed l.initial.builder).roots ++ take l.at l.vals; cells = (closed l.initial.builder).cells }) l.initial.builder l.builder
