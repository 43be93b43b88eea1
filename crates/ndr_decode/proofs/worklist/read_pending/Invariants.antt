use Rattle.std.proofs.Common.{◌≡◌, ◌≤◌, ◌+◌, ◌*◌, None, length, IfSome}
use Rattle.nd_base.specs.Over.{source_over}
use Rattle.nd_grammar.specs.decoded.Verdict.{decoding_seen}
use Rattle.ndr_decode.specs.Streaming.{purpose_of, with_taken}
use Rattle.ndr_decode.proofs.PendingSoFar.{SoFar}
use Rattle.ndr_decode.proofs.worklist.read_pending.Given as goal

abbrev pub invariant-loop-turn : goal.invariant-loop-turn
invariant-loop-turn g l =
    SoFar l.plan l.order l.initial.stream (source_over g.S.Source.seen l.initial.source l.source)
    (decoding_seen l.initial.items l.items (g.L.Ledger.number l.initial.steps) (g.L.Ledger.number l.steps)) l.next l.stream
    × (IfSome l.next (λ o. o.from + o.len ≤ length l.stream.wanted.items)
    × ((purpose_of l.stream ≡ purpose_of l.initial.stream) × (((g.S.Source.seen l.initial.source).faults ≤ (g.S.Source.seen l.source).faults)
    × (4 * (l._turn + length (with_taken l.next l.stream).pending) + l.initial.stream.machine.at ≤ 4 * length (with_taken None l.initial.stream).pending + l.stream.machine.at))))
