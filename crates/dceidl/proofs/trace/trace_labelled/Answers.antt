use Rattle.std.proofs.Common.{option_map}
use Rattle.nd_base.specs.Over.{source_over}
use Rattle.nd_value.specs.Fitting.{setting_beside}
use Rattle.command_line.specs.declared.command.OrderWord.TheVariants.{Label}
use Rattle.dceidl.proofs.Traces.{after_label, opened_made, opened_stopped, unlabelled}
use Rattle.dceidl.proofs.trace.trace_labelled.Goals as goal

pub returns-in-Ok-clause-made : goal.returns-in-Ok-clause-made
returns-in-Ok-clause-made g c o there =
    let all = source_over g.S.Source.seen c.args.input.now c.trace_octets.new.input in
    let rest = source_over g.S.Source.seen c.take_label.new.input c.trace_octets.new.input in
    let w = setting_beside c.args.ready.now.interface o c.args.ready.now.side (option_map (λ f. f.now.graph) c.args.given) in
    opened_made all rest Label c.in-Ok.named w (after_label _ _ _ _ _ _ _ _ c.in-Ok.ensures.later c.in-Ok.named c.in-Ok.ensures.label) c.trace_octets.result
    (c.trace_octets.ensures.explained o there)

pub returns-in-Ok-clause-stopped : goal.returns-in-Ok-clause-stopped
returns-in-Ok-clause-stopped g c o there =
    let all = source_over g.S.Source.seen c.args.input.now c.trace_octets.new.input in
    let rest = source_over g.S.Source.seen c.take_label.new.input c.trace_octets.new.input in
    let w = setting_beside c.args.ready.now.interface o c.args.ready.now.side (option_map (λ f. f.now.graph) c.args.given) in
    opened_stopped all rest Label c.in-Ok.named w (after_label _ _ _ _ _ _ _ _ c.in-Ok.ensures.later c.in-Ok.named c.in-Ok.ensures.label) c.trace_octets.result
    (c.trace_octets.ensures.stopped o there)

pub returns-in-Err-clause-stopped : goal.returns-in-Err-clause-stopped
returns-in-Err-clause-stopped g c o there =
    let s = source_over g.S.Source.seen c.args.input.now c.take_label.new.input in
    let w = setting_beside c.args.ready.now.interface o c.args.ready.now.side (option_map (λ f. f.now.graph) c.args.given) in
    unlabelled s w c.in-Err.refusal c.in-Err.ensures.refused
