use Rattle.std.proofs.Common.{◌≡◌, ◌+◌, take}
use Rattle.nd_value.specs.Tree.{trees, node_count}
use Rattle.text_printer.proofs.paths.child_at.Given as goal

abbrev pub invariant-loop-at : goal.invariant-loop-at
invariant-loop-at l = l.fn.node ≡ node_count (trees (take l.at l.vals)) + l.left
