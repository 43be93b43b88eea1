use Rattle.std.proofs.Common.{◌≡◌, ◌++◌, length}
use Rattle.command_why.specs.Explained.{entries, names}
use Rattle.command_why.proofs.near.names.Given as goal

abbrev pub invariant-loop-rest : goal.invariant-loop-rest
invariant-loop-rest l = l.lines ++ names (entries l.rest) ≡ names (entries l.fn.text)

abbrev pub decreases-loop-rest : goal.decreases-loop-rest
decreases-loop-rest l = length l.rest
