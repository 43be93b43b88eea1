use Rattle.nd_value.specs.Deferral.{Due, Placed_cells}
use Rattle.std.proofs.Common.{List, length, ◌+◌, ◌-◌, ◌^◌}
use Rattle.nd_grammar.specs.Entry.{Entry}
use Rattle.ndr_trace.specs.Homes.{IsAwaiting, IsPart}
use Rattle.ndr_trace_value.specs.Tracing.{IsGround, Known}
use Rattle.ndr_trace.proofs.homes.walk_referents.Given as goal

abbrev pub invariant-loop-next : goal.invariant-loop-next
invariant-loop-next l =
    (k : Known) → IsGround k l.fn.ground → IsPart k → (due : List Due) (rest : List Entry) (names : Placed_cells) → IsAwaiting k l.initial.walker due rest names
    → IsAwaiting k l.walker due rest names

-- each pointer that became pending has an item
abbrev pub decreases-loop-next : goal.decreases-loop-next
decreases-loop-next l = length l.walker.cells.pending.items + (2 ^ 64 - l.walker.progress.next)
