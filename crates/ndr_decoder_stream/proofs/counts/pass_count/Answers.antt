use Rattle.std.proofs.Common.{ap, sym, ◌∙◌, ◌≡◌, refl, pos, rules}
use Rattle.std.proofs.lemmas.Int.{to_z-of_z}
use mir.Val.{SFits, of_z, to_z}
use mir.Syntax.{w128}
use Rattle.nd_base.specs.Over.{source_over}
use Rattle.nd_types.specs.Number.{unsigned}
use Rattle.nd_grammar.specs.decoded.Verdict.{decoding_seen}
use Rattle.ndr_decoder_stream.proofs.Alone.{count_memory_stop, count_pass, count_stop}
use Rattle.ndr_decoder_stream.proofs.Counting.{count_stops, count_gives_up, count_read}
use Rattle.ndr_decoder_stream.proofs.counts.pass_count.Goals as goal

pub returns-in_err-fetch_count-clause-reads : goal.returns-in_err-fetch_count-clause-reads
returns-in_err-fetch_count-clause-reads g c w fetched noted direct first i rs roots elem done max_at k few p here =
    count_stops w c.args.order fetched noted direct first i rs roots elem done max_at k few c.args.machine.now here
    (source_over g.S.Source.seen c.args.source.now c.fetch_count.new.source)
    (decoding_seen c.args.items.now c.args.items.now (g.L.Ledger.number c.args.steps.now) (g.L.Ledger.number c.args.steps.now))
    p c.fetch_count.new.intake c.fetch_count.ensures.octets c.fetch_count.ensures.left refl refl c.in_err-fetch_count.field-0.0 c.in_err-fetch_count.ensures.came
    c.args.machine.now c.from_residual.result c.from_residual.ensures.1

pub returns-in_err-note-clause-reads : goal.returns-in_err-note-clause-reads
returns-in_err-note-clause-reads g c w fetched noted direct first i rs roots elem done max_at k few p here =
    count_gives_up w c.args.order fetched noted direct first i rs roots elem done max_at k few c.args.machine.now here
    (source_over g.S.Source.seen c.args.source.now c.fetch_count.new.source)
    (decoding_seen c.args.items.now c.note.new.self (g.L.Ledger.number c.args.steps.now) (g.L.Ledger.number c.note.new.steps))
    p c.fetch_count.new.intake c.fetch_count.ensures.octets c.fetch_count.ensures.left c.in_err-note.ensures.err (ap g.L.Ledger.number c.in_err-note.ensures.idle)
    c.args.machine.now c.from_residual-in_err-note.result c.from_residual-in_err-note.ensures.1

pub returns-clause-reads : goal.returns-clause-reads
returns-clause-reads g c w fetched noted direct first i rs roots elem done max_at k few p here =
    let fits : SFits w128 c.from.result = search rules in
    let value : to_z w128 (of_z w128 c.from.result) ≡ pos c.read_count-count.result = to_z-of_z w128 c.from.result fits ∙ c.from.ensures in
    count_read w c.args.order fetched noted direct first i rs roots elem done max_at k few c.args.machine.now here
    (source_over g.S.Source.seen c.args.source.now c.fetch_count.new.source)
    (decoding_seen c.args.items.now c.note.new.self (g.L.Ledger.number c.args.steps.now) (g.L.Ledger.number c.note.new.steps))
    p c.fetch_count.new.intake c.fetch_count.ensures.octets c.fetch_count.ensures.left c.in_ok-fetch_count.ensures.came.0 c.in_ok-fetch_count.ensures.came.1
    c.read_count-count.result (sym (c.read_count-count.ensures ∙ ap (unsigned c.args.order) c.octets.ensures)) (to_z w128 (of_z w128 c.from.result)) value
    c.in_ok-note.ensures.ok c.in_ok-note.ensures.ticks _ (record { home = refl; builder = refl; referents = refl; max_at = refl; wanted = refl }) refl

pub returns-in_err-fetch_count-clause-alone : goal.returns-in_err-fetch_count-clause-alone
returns-in_err-fetch_count-clause-alone g c =
    count_stop c.args.machine.now c.args.machine.now (source_over g.S.Source.seen c.args.source.now c.fetch_count.new.source)
    (decoding_seen c.args.items.now c.args.items.now (g.L.Ledger.number c.args.steps.now) (g.L.Ledger.number c.args.steps.now))
    c.fetch_count.new.intake c.fetch_count.ensures.octets c.fetch_count.ensures.left c.args.order refl refl c.in_err-fetch_count.field-0.0 c.in_err-fetch_count.ensures.came
    c.from_residual.result c.from_residual.ensures.1

pub returns-in_err-note-clause-alone : goal.returns-in_err-note-clause-alone
returns-in_err-note-clause-alone g c =
    count_memory_stop c.args.machine.now c.args.machine.now (source_over g.S.Source.seen c.args.source.now c.fetch_count.new.source)
    (decoding_seen c.args.items.now c.note.new.self (g.L.Ledger.number c.args.steps.now) (g.L.Ledger.number c.note.new.steps))
    c.fetch_count.new.intake c.fetch_count.ensures.octets c.fetch_count.ensures.left c.args.order c.in_err-note.ensures.err (ap g.L.Ledger.number c.in_err-note.ensures.idle)
    c.from_residual-in_err-note.result c.from_residual-in_err-note.ensures.1

pub returns-clause-alone : goal.returns-clause-alone
returns-clause-alone g c =
    let fits : SFits w128 c.from.result = search rules in
    let value : to_z w128 (of_z w128 c.from.result) ≡ pos c.read_count-count.result = to_z-of_z w128 c.from.result fits ∙ c.from.ensures in
    count_pass c.args.machine.now _ (source_over g.S.Source.seen c.args.source.now c.fetch_count.new.source)
    (decoding_seen c.args.items.now c.note.new.self (g.L.Ledger.number c.args.steps.now) (g.L.Ledger.number c.note.new.steps))
    c.fetch_count.new.intake c.fetch_count.ensures.octets c.fetch_count.ensures.left c.args.order c.in_ok-fetch_count.ensures.came.0 c.in_ok-fetch_count.ensures.came.1
    c.read_count-count.result (sym (c.read_count-count.ensures ∙ ap (unsigned c.args.order) c.octets.ensures)) (to_z w128 (of_z w128 c.from.result)) value
    c.in_ok-note.ensures.ok c.in_ok-note.ensures.ticks refl
