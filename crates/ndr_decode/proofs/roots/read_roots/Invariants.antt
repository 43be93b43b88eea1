use Rattle.std.proofs.Common.{◌≡◌, ◌≤◌}
use Rattle.nd_base.specs.Over.{source_over}
use Rattle.nd_grammar.specs.decoded.Verdict.{decoding_seen}
use Rattle.ndr_decode.specs.Streaming.{cells_of, purpose_of}
use Rattle.ndr_decode.proofs.RootTurns.{AllRest}
use Rattle.ndr_decode.proofs.roots.read_roots.Given as goal

abbrev pub invariant-loop-number : goal.invariant-loop-number
invariant-loop-number g l =
    AllRest l.plan l.op l.fn.side l.order (cells_of l.initial.stream) (source_over g.S.Source.seen l.initial.source l.source)
    (decoding_seen l.initial.items l.items (g.L.Ledger.number l.initial.steps) (g.L.Ledger.number l.steps)) l.stream l.number
    × ((purpose_of l.stream ≡ purpose_of l.initial.stream) × ((g.S.Source.seen l.initial.source).faults ≤ (g.S.Source.seen l.source).faults))
