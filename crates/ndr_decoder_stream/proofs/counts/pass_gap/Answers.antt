use Rattle.std.proofs.Common.{ap, ◌+◌, ◌≡◌, length, refl, subst}
use Rattle.nd_base.specs.Over.{source_over}
use Rattle.ndr_decoder_state.specs.Notes.{all_noted}
use Rattle.ndr_decoder_laws.specs.steps.StepItems.{gap_items}
use Rattle.nd_grammar.specs.decoded.Verdict.{decoding_seen}
use Rattle.ndr_decoder_stream.proofs.Alone.{gap_memory_stop, gap_pass, gap_stop}
use Rattle.ndr_decoder_stream.proofs.Counting.{gap_stops, gap_gives_up, gap_read}
use Rattle.ndr_decoder_stream.proofs.counts.pass_gap.Goals as goal

pub returns-in_err-fetch_gap-clause-reads : goal.returns-in_err-fetch_gap-clause-reads
returns-in_err-fetch_gap-clause-reads g c w fetched noted direct first i rs roots elem done max_at k few p here =
    gap_stops w c.args.order fetched noted direct first i rs roots elem done max_at k few c.args.machine.now here
    (source_over g.S.Source.seen c.args.source.now c.fetch_gap.new.source)
    (decoding_seen c.args.items.now c.args.items.now (g.L.Ledger.number c.args.steps.now) (g.L.Ledger.number c.args.steps.now))
    p c.fetch_gap.new.intake c.fetch_gap.ensures.octets c.fetch_gap.ensures.left refl refl c.in_err-fetch_gap.field-0.0 c.in_err-fetch_gap.ensures.came
    c.args.machine.now c.from_residual.result c.from_residual.ensures.1

pub returns-in_err-note_gap-clause-reads : goal.returns-in_err-note_gap-clause-reads
returns-in_err-note_gap-clause-reads g c w fetched noted direct first i rs roots elem done max_at k few p here =
    gap_gives_up w c.args.order fetched noted direct first i rs roots elem done max_at k few c.args.machine.now here
    (source_over g.S.Source.seen c.args.source.now c.fetch_gap.new.source)
    (decoding_seen c.args.items.now c.note_gap.new.items (g.L.Ledger.number c.args.steps.now) (g.L.Ledger.number c.note_gap.new.steps))
    p c.fetch_gap.new.intake c.fetch_gap.ensures.octets c.fetch_gap.ensures.left c.in_err-note_gap.ensures.err (ap g.L.Ledger.number c.in_err-note_gap.ensures.idle)
    c.in_err-note_gap.field-0.0 c.in_err-note_gap.ensures.memory c.args.machine.now c.from_residual-in_err-note_gap.result c.from_residual-in_err-note_gap.ensures.1

pub returns-clause-reads : goal.returns-clause-reads
returns-clause-reads g c w fetched noted direct first i rs roots elem done max_at k few p here =
    gap_read w c.args.order fetched noted direct first i rs roots elem done max_at k few c.args.machine.now here
    (source_over g.S.Source.seen c.args.source.now c.fetch_gap.new.source)
    (decoding_seen c.args.items.now c.note_gap.new.items (g.L.Ledger.number c.args.steps.now) (g.L.Ledger.number c.note_gap.new.steps))
    p c.fetch_gap.new.intake c.fetch_gap.ensures.octets c.fetch_gap.ensures.left c.in_ok-fetch_gap.ensures.came
    (subst (λ z. c.note_gap.new.items ≡ all_noted (gap_items c.args.machine.now.home c.args.machine.now.at z) c.args.items.now) c.octets.ensures c.in_ok-note_gap.ensures.ok)
    c.in_ok-note_gap.ensures.ticks _ (record { home = refl; builder = refl; referents = refl; max_at = refl; wanted = refl }) (ap (λ z. c.args.machine.now.at + length z) c.octets-2.ensures)

pub returns-in_err-fetch_gap-clause-alone : goal.returns-in_err-fetch_gap-clause-alone
returns-in_err-fetch_gap-clause-alone g c =
    gap_stop c.args.machine.now c.args.machine.now (source_over g.S.Source.seen c.args.source.now c.fetch_gap.new.source)
    (decoding_seen c.args.items.now c.args.items.now (g.L.Ledger.number c.args.steps.now) (g.L.Ledger.number c.args.steps.now))
    c.fetch_gap.new.intake c.fetch_gap.ensures.octets c.fetch_gap.ensures.left refl refl c.in_err-fetch_gap.field-0.0 c.in_err-fetch_gap.ensures.came
    c.from_residual.result c.from_residual.ensures.1

pub returns-in_err-note_gap-clause-alone : goal.returns-in_err-note_gap-clause-alone
returns-in_err-note_gap-clause-alone g c =
    gap_memory_stop c.args.machine.now c.args.machine.now (source_over g.S.Source.seen c.args.source.now c.fetch_gap.new.source)
    (decoding_seen c.args.items.now c.note_gap.new.items (g.L.Ledger.number c.args.steps.now) (g.L.Ledger.number c.note_gap.new.steps))
    c.fetch_gap.new.intake c.fetch_gap.ensures.octets c.fetch_gap.ensures.left c.in_err-note_gap.ensures.err (ap g.L.Ledger.number c.in_err-note_gap.ensures.idle)
    c.in_err-note_gap.field-0.0 c.in_err-note_gap.ensures.memory c.from_residual-in_err-note_gap.result c.from_residual-in_err-note_gap.ensures.1

pub returns-clause-alone : goal.returns-clause-alone
returns-clause-alone g c =
    gap_pass c.args.machine.now _ (source_over g.S.Source.seen c.args.source.now c.fetch_gap.new.source)
    (decoding_seen c.args.items.now c.note_gap.new.items (g.L.Ledger.number c.args.steps.now) (g.L.Ledger.number c.note_gap.new.steps))
    c.fetch_gap.new.intake c.fetch_gap.ensures.octets c.fetch_gap.ensures.left c.in_ok-fetch_gap.ensures.came
    (subst (λ z. c.note_gap.new.items ≡ all_noted (gap_items c.args.machine.now.home c.args.machine.now.at z) c.args.items.now) c.octets.ensures c.in_ok-note_gap.ensures.ok)
    c.in_ok-note_gap.ensures.ticks (ap (λ z. c.args.machine.now.at + length z) c.octets-2.ensures)
