use Rattle.std.proofs.Common.{ℕ, ◌<◌, ◌≤◌, ◌+◌, ◌++◌, List, Some, length}
use Rattle.nd_value.specs.Deferral.{Placed_cells}
use Rattle.nd_value.specs.Tree.{Trees}
use Rattle.nd_grammar.specs.Entry.{Entry}
use Rattle.ndr_explain.specs.Cursors.{level_paths, level_places, level_types, name_text}
use Rattle.ndr_trace_value.specs.Left.{items_left, least_items, nodes_left, total}
use Rattle.ndr_trace_value.specs.Naming.{IsNaming, names_in}
use Rattle.ndr_trace_value.specs.Tracing.{IsFrom, IsGround, IsTracing, Known}
use Rattle.ndr_trace_value.specs.Walking.{AreThere, GoesOn, IsPaid, values_due}
use Rattle.ndr_trace_value.proofs.nodes.walk_level.Given as goal

abbrev pub invariant-loop-next : goal.invariant-loop-next
invariant-loop-next l = record {
  some : 0 < length (level_types l.levels.top);
  here : (k : Known) → IsGround k l.ground → IsFrom k l.home l.from → (n : ℕ) (left : Trees)
      → AreThere k l.home l.max (level_types l.fn.first) (level_paths (name_text l.name) l.fn.first) (level_places l.fn.first) n left
      → (rest : List Entry) → IsTracing k l.fn.walker.progress (values_due k l.home (level_types l.fn.first) n left ++ rest)
      → (names : Placed_cells) → IsNaming k l.fn.walker.cells (names_in (values_due k l.home (level_types l.fn.first) n left) ++ names)
      → GoesOn k l.home l.max (name_text l.name) (values_due k l.home (level_types l.fn.first) n left) rest names l.fn.walker l.walker l.levels;
  paid : IsPaid l.fn.walker l.walker;
  taken : total (least_items l.ground.interface.now.types) (level_types l.fn.first) + l.fn.walker.progress.next
      ≤ items_left l.ground.interface.now.types (Some l.levels) + l.walker.progress.next;
}

abbrev pub decreases-loop-next : goal.decreases-loop-next
decreases-loop-next l = nodes_left l.ground.interface.now.types l.levels
