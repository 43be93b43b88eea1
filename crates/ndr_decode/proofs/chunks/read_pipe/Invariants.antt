use Rattle.std.proofs.Common.{◌≡◌, ◌≤◌, ◌<◌, ◌+◌, ◌^◌}
use Rattle.nd_base.specs.Over.{source_over}
use Rattle.nd_grammar.specs.decoded.Verdict.{decoding_seen}
use Rattle.ndr_decode.specs.Piping.{purpose_in}
use Rattle.ndr_decode.proofs.PipeLoops.{PipeGoesOn}
use Rattle.ndr_decode.proofs.chunks.read_pipe.Given as goal

abbrev pub invariant-loop-chunk : goal.invariant-loop-chunk
invariant-loop-chunk g l =
    PipeGoesOn l.plan l.order l.number l.elem l.so_far l.fn.machine
    (source_over g.S.Source.seen l.initial.source l.source)
    (decoding_seen l.initial.items l.items (g.L.Ledger.number l.initial.steps) (g.L.Ledger.number l.steps)) l.machine
    × (((l._chunk ≤ l.so_far) × (l.so_far + 1 < 2 ^ 32)) × ((purpose_in l.machine ≡ purpose_in l.fn.machine) × ((g.S.Source.seen l.initial.source).faults ≤ (g.S.Source.seen l.source).faults)))
