use Rattle.std.proofs.Common.{◌≡◌, ◌+◌, length, drop}
use Rattle.nd_misfits.specs.HomeList.{cell_homes}
use Rattle.nd_misfits.specs.Pointers.{first_clash, pointers_of_homes}
use Rattle.nd_misfits.proofs.shared.among_cells.Given as goal

abbrev pub invariant-loop-at : goal.invariant-loop-at
invariant-loop-at l = record {
  length : length l.names.items ≡ length l.fn.names.items;
  left : first_clash l.fn.names.items (pointers_of_homes l.types (cell_homes 1 l.graph.cells))
      ≡ first_clash l.names.items (pointers_of_homes l.types (cell_homes (l.at + 1) (drop l.at l.graph.cells)));
}
