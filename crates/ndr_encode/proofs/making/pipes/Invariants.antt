use Rattle.std.proofs.Common.{◌≡◌, ◌+◌}
use Rattle.ndr_encode.proofs.MadePipes.{PipesSoFar}
use Rattle.ndr_encode.proofs.making.pipes.Given as goal

abbrev pub invariant-loop-pipe : goal.invariant-loop-pipe
invariant-loop-pipe l = record {
  so_far : PipesSoFar l.plan l.chunk l.fit l.initial.search l.pipe l.search;
  here : l.line + l.next ≡ l.first + l.pipe;
}
