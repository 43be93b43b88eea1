use Rattle.std.proofs.Common.{◌≡◌, length}
use Rattle.command_why.specs.Explained.{entries, entry_of}
use Rattle.command_why.proofs.lookup.entry_named.Given as goal

abbrev pub invariant-loop-rest : goal.invariant-loop-rest
invariant-loop-rest l = entry_of (entries l.rest) l.name ≡ entry_of (entries l.fn.text) l.fn.name

abbrev pub decreases-loop-rest : goal.decreases-loop-rest
decreases-loop-rest l = length l.rest
