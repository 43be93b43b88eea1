use Rattle.std.proofs.Common.{◌≡◌, ◌+◌, drop}
use Rattle.nd_value.specs.Setting.{Setting}
use Rattle.nd_misfits.specs.HomeList.{cell_homes}
use Rattle.nd_misfits.specs.Disagreeing.{disagreeing_homes}
use Rattle.nd_misfits.specs.Numbers.{AreNumbers}
use Rattle.nd_misfits.proofs.disagreeing.among_cells.Given as goal

abbrev pub invariant-loop-at : goal.invariant-loop-at
invariant-loop-at l =
    (w : Setting) → w.table ≡ l.types → w.op ≡ l.operation → AreNumbers w l.graph l.numbers
    → disagreeing_homes w l.graph (cell_homes 1 l.graph.cells) ≡ disagreeing_homes w l.graph (cell_homes (l.at + 1) (drop l.at l.graph.cells))
