use Rattle.std.proofs.Common.{Err, refl, option_map}
use Rattle.nd_base.specs.Over.{source_over}
use Rattle.nd_lemmas.proofs.Lists.{item_at}
use Rattle.nd_value.specs.Fitting.{setting_beside}
use Rattle.ndr_decoder_state.specs.declared.fault.DecodeFault.TheVariants.{ReadFault}
use Rattle.nd_grammar.specs.decoded.Verdict.{decoding_seen}
use Rattle.ndr_decode.proofs.Decodes.{same_fault}
use Rattle.ndr_drain_reader.proofs.HeadCalls.{risen}
use Rattle.ndr_drain_reader.proofs.intake.Intake.head.Goals as goal

pub returns-in-Err-clause-read_fault : goal.returns-in-Err-clause-read_fault
returns-in-Err-clause-read_fault g c is =
    let i = c.args.self.now in
    let (o, there) = item_at i.plan.now.tie.operations i.op c.requires.ready.known in
    risen (setting_beside i.plan.now.tie o i.side (option_map (λ f. f.now.graph) c.args.given)) i.order
    (source_over g.S.Source.seen c.args.source.now c.read_head.new.source)
    (decoding_seen c.args.items.now c.read_head.new.items (g.L.Ledger.number c.args.steps.now) (g.L.Ledger.number c.read_head.new.steps)) c.in-Err.fault
    (same_fault (Err c.in-Err.fault) c.in-Err.fault ReadFault refl is) (c.in-Err.ensures.cause o there)
