use Rattle.std.proofs.Common.{◌++◌, refl, subst}
use Rattle.nd_base.specs.Over.{source_over}
use Rattle.nd_grammar.specs.decoded.Verdict.{decoding_seen}
use Rattle.ndr_decoder_stream.specs.Chunks.{Counts}
use Rattle.ndr_decoder_stream.proofs.Alone.{gap_stopped_alone, told_both}
use Rattle.ndr_decoder_stream.proofs.Twice.{cells_stay, counted_then, stopped_first}
use Rattle.ndr_decoder_stream.proofs.counts.chunk_count.Goals as goal

pub returns-in_err-pass_gap-clause-reads : goal.returns-in_err-pass_gap-clause-reads
returns-in_err-pass_gap-clause-reads g c w fetched noted direct first i rs roots elem done max_at k few p here =
    let a = source_over g.S.Source.seen c.args.source.now c.pass_gap.new.source in
    let b = source_over g.S.Source.seen c.pass_gap.new.source c.pass_gap.new.source in
    let s = decoding_seen c.args.items.now c.pass_gap.new.items (g.L.Ledger.number c.args.steps.now) (g.L.Ledger.number c.pass_gap.new.steps) in
    let t = decoding_seen c.pass_gap.new.items c.pass_gap.new.items (g.L.Ledger.number c.pass_gap.new.steps) (g.L.Ledger.number c.pass_gap.new.steps) in
    stopped_first w c.args.order fetched noted direct first i rs roots elem done max_at c.args.machine.now.cells a b a s t s
    (record { before = refl; middle = refl; after = refl; ended = refl; log = refl; log_middle = refl; log_now = refl; steps = refl; steps_middle = refl; steps_now = refl })
    c.args.machine.now c.pass_gap.new.machine c.in_err-pass_gap.field-0.0
    (c.in_err-pass_gap.ensures.reads w fetched noted direct first i rs roots elem done max_at k few p here) c.from_residual.result c.from_residual.ensures.1

pub returns-clause-reads : goal.returns-clause-reads
returns-clause-reads g c w fetched noted direct first i rs roots elem done max_at k few p here =
    let a = source_over g.S.Source.seen c.args.source.now c.pass_gap.new.source in
    let b = source_over g.S.Source.seen c.pass_gap.new.source c.pass_count.new.source in
    let z = source_over g.S.Source.seen c.args.source.now c.pass_count.new.source in
    let s = decoding_seen c.args.items.now c.pass_gap.new.items (g.L.Ledger.number c.args.steps.now) (g.L.Ledger.number c.pass_gap.new.steps) in
    let t = decoding_seen c.pass_gap.new.items c.pass_count.new.items (g.L.Ledger.number c.pass_gap.new.steps) (g.L.Ledger.number c.pass_count.new.steps) in
    let u = decoding_seen c.args.items.now c.pass_count.new.items (g.L.Ledger.number c.args.steps.now) (g.L.Ledger.number c.pass_count.new.steps) in
    let r = c.in_ok-pass_gap.ensures.reads w fetched noted direct first i rs roots elem done max_at k few p here in
    counted_then w c.args.order fetched noted direct first i rs roots elem done max_at c.args.machine.now.cells a b z s t u
    (record { before = refl; middle = refl; after = refl; ended = refl; log = refl; log_middle = refl; log_now = refl; steps = refl; steps_middle = refl; steps_now = refl })
    c.pass_gap.new.machine c.pass_count.new.machine c.pass_gap.ensures.later refl r c.pass_count.result
    (subst (λ y. Counts w c.args.order (fetched ++ r.octets) (noted ++ r.items) direct first i rs roots elem done max_at y b t c.pass_count.new.machine c.pass_count.result)
    (cells_stay c.args.machine.now c.pass_gap.new.machine c.in_ok-pass_gap.ensures.moved)
    (c.pass_count.ensures.reads w (fetched ++ r.octets) (noted ++ r.items) direct first i rs roots elem done max_at r.k few r.in_pipe r.is_at))

pub returns-in_err-pass_gap-clause-alone : goal.returns-in_err-pass_gap-clause-alone
returns-in_err-pass_gap-clause-alone g c =
    let a = source_over g.S.Source.seen c.args.source.now c.pass_gap.new.source in
    let s = decoding_seen c.args.items.now c.pass_gap.new.items (g.L.Ledger.number c.args.steps.now) (g.L.Ledger.number c.pass_gap.new.steps) in
    gap_stopped_alone c.args.order a s c.args.machine.now c.pass_gap.new.machine c.in_err-pass_gap.field-0.0 c.in_err-pass_gap.ensures.alone c.from_residual.result c.from_residual.ensures.1

pub returns-clause-alone : goal.returns-clause-alone
returns-clause-alone g c =
    let a = source_over g.S.Source.seen c.args.source.now c.pass_gap.new.source in
    let b = source_over g.S.Source.seen c.pass_gap.new.source c.pass_count.new.source in
    let z = source_over g.S.Source.seen c.args.source.now c.pass_count.new.source in
    let s = decoding_seen c.args.items.now c.pass_gap.new.items (g.L.Ledger.number c.args.steps.now) (g.L.Ledger.number c.pass_gap.new.steps) in
    let t = decoding_seen c.pass_gap.new.items c.pass_count.new.items (g.L.Ledger.number c.pass_gap.new.steps) (g.L.Ledger.number c.pass_count.new.steps) in
    let u = decoding_seen c.args.items.now c.pass_count.new.items (g.L.Ledger.number c.args.steps.now) (g.L.Ledger.number c.pass_count.new.steps) in
    told_both c.args.order a b z s t u
    (record { before = refl; middle = refl; after = refl; ended = refl; log = refl; log_middle = refl; log_now = refl; steps = refl; steps_middle = refl; steps_now = refl })
    c.args.machine.now c.pass_gap.new.machine c.pass_count.new.machine refl c.pass_gap.ensures.later c.in_ok-pass_gap.ensures.alone c.in_ok-pass_gap.ensures.moved.home c.pass_count.result
    c.pass_count.ensures.alone
