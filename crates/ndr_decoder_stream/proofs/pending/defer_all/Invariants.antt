use Rattle.std.proofs.Common.{◌≡◌, ◌-◌, ◌++◌, length, map, drop}
use Rattle.ndr_decoder_state.specs.Seen.{owed_of}
use Rattle.ndr_decoder_stream.specs.Seen.{AreSpans, pending_in}
use Rattle.ndr_decoder_stream.proofs.pending.defer_all.Given as goal

abbrev pub invariant-loop-at : goal.invariant-loop-at
invariant-loop-at l =
    (pending_in l.wanted.items l.todo.items
    ≡ map (owed_of l.machine.wanted.items) (drop (length l.machine.fresh.items - l.at) l.machine.fresh.items) ++ pending_in l.initial.wanted.items l.initial.todo.items)
    × AreSpans l.wanted.items l.todo.items
