use Rattle.std.proofs.Common.{◌≡◌, take}
use Rattle.library_nodes.specs.Steps.{number_trees}
use Rattle.library_nodes.proofs.values.number_values.Given as goal

abbrev pub invariant-loop-number : goal.invariant-loop-number
invariant-loop-number l = l.vals ≡ number_trees l.wide (take l.number-index l.numbers)
