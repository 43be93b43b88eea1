use Rattle.std.proofs.Common.{◌≡◌, ◌++◌, length}
use Rattle.command_why.specs.Explained.{entries, names_sharing}
use Rattle.command_why.proofs.near.names_sharing.Given as goal

abbrev pub invariant-loop-rest : goal.invariant-loop-rest
invariant-loop-rest l = l.lines ++ names_sharing l.count (entries l.rest) l.name ≡ names_sharing l.fn.count (entries l.fn.text) l.fn.name

abbrev pub decreases-loop-rest : goal.decreases-loop-rest
decreases-loop-rest l = length l.rest
