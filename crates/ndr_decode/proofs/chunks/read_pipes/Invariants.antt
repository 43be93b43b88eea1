use Rattle.std.proofs.Common.{◌≡◌, ◌≤◌}
use Rattle.nd_base.specs.Over.{source_over}
use Rattle.nd_grammar.specs.decoded.Verdict.{decoding_seen}
use Rattle.ndr_decode.specs.Streaming.{purpose_of}
use Rattle.ndr_decode.proofs.PipesRead.{PipesGoOn}
use Rattle.ndr_decode.proofs.chunks.read_pipes.Given as goal

abbrev pub invariant-loop-next : goal.invariant-loop-next
invariant-loop-next g l =
    PipesGoOn l.plan l.op l.side l.order l.line l.initial.stream
    (source_over g.S.Source.seen l.initial.source l.source)
    (decoding_seen l.initial.items l.items (g.L.Ledger.number l.initial.steps) (g.L.Ledger.number l.steps)) l.stream l.next l.number
    × ((purpose_of l.stream ≡ purpose_of l.initial.stream) × ((g.S.Source.seen l.initial.source).faults ≤ (g.S.Source.seen l.source).faults))
