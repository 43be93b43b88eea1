use Rattle.std.proofs.Common.{◌≡◌, map, take}
use Rattle.nd_flat.specs.RenumberedNodes.{cell_span}
use Rattle.nd_flat.proofs.renumbered.spans.Given as goal

abbrev pub invariant-loop-cell : goal.invariant-loop-cell
invariant-loop-cell l = l.found.items ≡ map (cell_span l.spans) (take l.cell-index l.cells)
