use Rattle.std.proofs.Common.{◌≡◌, ◌+◌, drop, map}
use Rattle.nd_value.specs.Tree.{trees, Referent}
use Rattle.nd_value.specs.Passes.{first_in_cells}
use Rattle.nd_misfits.specs.Searched.{have_machine_values}
use Rattle.nd_misfits.proofs.local.cells.Given as goal

abbrev pub invariant-loop-at : goal.invariant-loop-at
invariant-loop-at l = record {
  left : first_in_cells l.types l.graph 1 l.graph.cells ≡ first_in_cells l.types l.graph (l.at + 1) (drop l.at l.graph.cells);
  machine : have_machine_values (trees (map (λ (x : Referent). x.val) l.graph.cells))
      ≡ have_machine_values (trees (drop l.at (map (λ (x : Referent). x.val) l.graph.cells)));
}
