use Rattle.std.proofs.Common.{◌≡◌, ◌<◌, ℕ}
use Rattle.nd_value.specs.Setting.{root_at}
use Rattle.nd_flat.specs.Renumbered.{renumbered_tree}
use Rattle.nd_graph.specs.Alike.{number_by}
use Rattle.nd_graph.proofs.sameness.same_roots.Given as goal

abbrev pub invariant-loop-at : goal.invariant-loop-at
invariant-loop-at l = (i : ℕ) → i < l.at
    → renumbered_tree (number_by l.left.numbers.items) (root_at l.a i) ≡ renumbered_tree (number_by l.right.numbers.items) (root_at l.b i)
