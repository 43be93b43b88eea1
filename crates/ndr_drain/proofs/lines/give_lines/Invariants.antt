use Rattle.std.proofs.Common.{drop}
use Rattle.ndr_pipe.specs.Ends.{ends_seen}
use Rattle.ndr_drain.specs.Drained.{lines}
use Rattle.ndr_drain.specs.Turns.{IsPartWay}
use Rattle.ndr_drain.proofs.lines.give_lines.Given as goal

abbrev pub invariant-loop-at : goal.invariant-loop-at
invariant-loop-at g l =
    IsPartWay (ends_seen g.E.PipeEnd.seen l.initial.ends) (ends_seen g.E.PipeEnd.seen l.ends) l.which
    (lines l.interface.types l.of.0 l.vals) (lines l.interface.types l.of.0 (drop l.at l.vals))
