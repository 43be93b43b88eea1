use Rattle.std.proofs.Common.{◌≡◌, length}
use Rattle.std.specs.Prelude.{max}
use Rattle.command_why.specs.Explained.{entries, most_shared}
use Rattle.command_why.proofs.near.most_shared.Given as goal

abbrev pub invariant-loop-rest : goal.invariant-loop-rest
invariant-loop-rest l = max l.most (most_shared (entries l.rest) l.name) ≡ most_shared (entries l.fn.text) l.fn.name

abbrev pub decreases-loop-rest : goal.decreases-loop-rest
decreases-loop-rest l = length l.rest
