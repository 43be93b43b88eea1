use Rattle.std.proofs.Common.{◌≡◌, ℕ, length}
use Rattle.ndr_decoder_stream.specs.declared.cells.Lists.{Lists}
use Rattle.ndr_decoder_stream.specs.Entries.{IsSound, said_at}
use Rattle.ndr_decoder_stream.proofs.cells.reach.Given as goal

abbrev pub invariant-loop-next : goal.invariant-loop-next
invariant-loop-next l =
    ((m : Lists) (i : ℕ) → said_at m l.entries.items i ≡ said_at m l.initial.entries.items i)
    × ((m : Lists) → IsSound m l.initial.entries.items → IsSound m l.entries.items)
    × (l._next ≡ length l.entries.items)
