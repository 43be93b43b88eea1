use Rattle.std.proofs.Common.{List, ℕ}
use Rattle.nd_value.specs.Seen.{tree_of}
use Rattle.text_printer.specs.Steps.{HasPath}
use Rattle.text_printer.proofs.paths.append_steps.Given as goal

abbrev pub invariant-loop-left : goal.invariant-loop-left
invariant-loop-left l =
    (p : List ℕ) → HasPath l.types l.fn.of.0 l.initial.text (tree_of l.fn.val) l.fn.node p → HasPath l.types l.child_of.0 l.text (tree_of l.child) l.left p

abbrev pub decreases-loop-left : goal.decreases-loop-left
decreases-loop-left l = l.left
