use Rattle.std.proofs.Common.{◌≡◌, ◌≤◌, length}
use Rattle.library_types.proofs.roots.root_at.Given as goal

abbrev pub invariant-loop-root : goal.invariant-loop-root
invariant-loop-root l = record {
  counted : l.number ≡ length l.yielded;
  before : l.number ≤ l.fn.at;
}
