use Rattle.std.proofs.Common.{IfErr, IfOk, option_map, refl, sym, subst}
use Rattle.nd_base.specs.Over.{source_over}
use Rattle.nd_value.specs.Fitting.{setting_beside}
use Rattle.ndr_pipe.specs.Ends.{EndsSeen}
use Rattle.command_line.specs.declared.command.OrderWord.TheVariants.{Fixed}
use Rattle.command_line.specs.declared.command.Reading.TheVariants.{Trace}
use Rattle.command_line.specs.declared.command.Task.TheVariants.{Read}
use Rattle.dceidl.specs.Input.{IsMadeOf}
use Rattle.dceidl.specs.Tracing.{IsStoppedTask}
use Rattle.dceidl.proofs.Traces.{opened_made, opened_stopped}
use Rattle.dceidl.proofs.trace.trace_values.Goals as goal

pub returns-in-Fixed-clause-made : goal.returns-in-Fixed-clause-made
returns-in-Fixed-clause-made g c o there =
    let s = source_over g.S.Source.seen c.args.input.now c.trace_octets.new.input in
    let w = setting_beside c.args.ready.now.interface o c.args.ready.now.side (option_map (λ f. f.now.graph) c.args.given) in
    subst (λ word. IfOk c.trace_octets.result (λ made. (e : EndsSeen) → IsMadeOf s e (Read Trace word) w made)) (sym c.in-Fixed.is)
    (opened_made s s (Fixed c.in-Fixed.named) c.in-Fixed.named w (refl, refl) c.trace_octets.result (c.trace_octets.ensures.explained o there))

pub returns-in-Fixed-clause-stopped : goal.returns-in-Fixed-clause-stopped
returns-in-Fixed-clause-stopped g c o there =
    let s = source_over g.S.Source.seen c.args.input.now c.trace_octets.new.input in
    let w = setting_beside c.args.ready.now.interface o c.args.ready.now.side (option_map (λ f. f.now.graph) c.args.given) in
    subst (λ word. IfErr c.trace_octets.result (IsStoppedTask s word w)) (sym c.in-Fixed.is)
    (opened_stopped s s (Fixed c.in-Fixed.named) c.in-Fixed.named w (refl, refl) c.trace_octets.result (c.trace_octets.ensures.stopped o there))

pub returns-in-Label-clause-made : goal.returns-in-Label-clause-made
returns-in-Label-clause-made g c o there =
    let s = source_over g.S.Source.seen c.args.input.now c.trace_labelled.new.input in
    let w = setting_beside c.args.ready.now.interface o c.args.ready.now.side (option_map (λ f. f.now.graph) c.args.given) in
    subst (λ word. IfOk c.trace_labelled.result (λ made. (e : EndsSeen) → IsMadeOf s e (Read Trace word) w made)) (sym c.in-Label.is) (c.trace_labelled.ensures.made o there)

pub returns-in-Label-clause-stopped : goal.returns-in-Label-clause-stopped
returns-in-Label-clause-stopped g c o there =
    let s = source_over g.S.Source.seen c.args.input.now c.trace_labelled.new.input in
    let w = setting_beside c.args.ready.now.interface o c.args.ready.now.side (option_map (λ f. f.now.graph) c.args.given) in
    subst (λ word. IfErr c.trace_labelled.result (IsStoppedTask s word w)) (sym c.in-Label.is) (c.trace_labelled.ensures.stopped o there)
