use Rattle.std.proofs.Common.{◌≡◌, length}
use Rattle.library_types.proofs.roots.root_count.Given as goal

abbrev pub invariant-loop-root : goal.invariant-loop-root
invariant-loop-root l = l.number ≡ length l.yielded
