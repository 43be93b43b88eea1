use Rattle.std.proofs.Common.{◌^◌, ◌-◌, min, ap, ◌∙◌}
use Rattle.nd_base.specs.Over.{source_over}
use Rattle.nd_base.specs.declared.ledger.Counted.{Counted}
use Rattle.nd_grammar.specs.decoded.Verdict.{decoding_seen}
use Rattle.ndr_drain_reader.proofs.Taken.{handed_all, handed_part, taken_memory}
use Rattle.ndr_drain_reader.proofs.chunk.take_chunk.Goals as goal

pub returns-in_err-hand_on-clause-takes : goal.returns-in_err-hand_on-clause-takes
returns-in_err-hand_on-clause-takes g c p e =
    taken_memory p.w c.args.order p.spot (source_over g.S.Source.seen c.args.source.now c.fill_chunk-came.new.source)
    (decoding_seen c.args.items.now c.hand_on.new.items (g.L.Ledger.number c.args.steps.now)
    (g.L.Ledger.number c.args.steps.now)) c.fill_chunk-came.new.machine c.from_residual.result c.from_residual.ensures.1
    (handed_part p.w c.args.order p.spot
    (source_over g.S.Source.seen c.args.source.now c.fill_chunk-came.new.source) c.like-own.result c.fill_chunk-came.new.items c.args.items.now
    c.hand_on.new.items c.new-counter.result.number c.fill_chunk-came.new.steps.number (g.L.Ledger.number c.args.steps.now) c.args.before e c.like-own.ensures.keeps c.like-own.ensures.empty
    (ap (λ (l : Counted). l.number) c.new-counter.ensures ∙ c.new.ensures) c.fill_chunk-came.new.machine c.fill_chunk-came.result (c.fill_chunk-came.ensures.fills p) c.in_err-hand_on.ensures)

pub returns-clause-takes : goal.returns-clause-takes
returns-clause-takes g c p e =
    handed_all p.w c.args.order p.spot
    (source_over g.S.Source.seen c.args.source.now c.fill_chunk-came.new.source) c.like-own.result c.fill_chunk-came.new.items c.args.items.now
    c.hand_on.new.items c.new-counter.result.number c.fill_chunk-came.new.steps.number (g.L.Ledger.number c.args.steps.now) c.args.before e c.like-own.ensures.keeps c.like-own.ensures.empty
    (ap (λ (l : Counted). l.number) c.new-counter.ensures ∙ c.new.ensures) c.fill_chunk-came.new.machine c.fill_chunk-came.result (c.fill_chunk-came.ensures.fills p)
    c.in_ok-hand_on.ensures c.count.result (g.L.Ledger.number c.count_steps.new.steps) (c.count.ensures ∙ ap (λ (l : Counted). min l.number (2 ^ 64 - 1)) c.ledger.ensures) c.count_steps.ensures
