use Rattle.std.proofs.Common.{◌≡◌, length, drop, suc}
use Rattle.nd_fit.specs.Reach.{searched, note_roots}
use Rattle.nd_fit.proofs.reach.from_roots.Given as goal

abbrev pub invariant-loop-at : goal.invariant-loop-at
invariant-loop-at l = record {
  marks : length l.marks.items ≡ suc (length l.graph.cells);
  left : note_roots (drop l.at l.graph.roots) (searched l.marks.items l.queue.items) ≡ note_roots l.graph.roots (searched l.initial.marks.items l.initial.queue.items);
}
