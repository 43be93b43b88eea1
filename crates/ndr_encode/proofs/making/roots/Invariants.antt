use Rattle.std.proofs.Common.{◌≡◌, ◌+◌}
use Rattle.ndr_encode.proofs.MadeRoots.{RootsSoFar}
use Rattle.ndr_encode.proofs.making.roots.Given as goal

abbrev pub invariant-loop-line : goal.invariant-loop-line
invariant-loop-line l = record {
  so_far : RootsSoFar l.plan l.chunk l.fit l.initial.search l.next l.search;
  here : l.line ≡ l.first + l.next;
}
