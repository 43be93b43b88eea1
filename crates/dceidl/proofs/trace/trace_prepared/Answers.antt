use Rattle.std.proofs.Common.{None, Some, option_map, subst}
use Rattle.nd_base.specs.Over.{source_over}
use Rattle.nd_value.specs.Fitting.{setting_beside}
use Rattle.dceidl.specs.Ready.{IsAllReady}
use Rattle.dceidl.proofs.Traces.{prepared_made, prepared_stopped}
use Rattle.dceidl.proofs.trace.trace_prepared.Goals as goal

pub returns-in-None-clause-made : goal.returns-in-None-clause-made
returns-in-None-clause-made g c f of given p =
    let r = c.args.prepared.ready in
    let s = source_over g.S.Source.seen c.args.input.now c.trace_values.new.input in
    prepared_made f s c.args.order of given (setting_beside r.interface p.operation r.side None)
    (subst (λ q. IsAllReady f of given (setting_beside r.interface p.operation r.side (option_map (λ u. u.graph) q))) c.in-None.is p.ready) c.trace_values.result
    (c.trace_values.ensures.made p.operation p.there)

pub returns-in-None-clause-stopped : goal.returns-in-None-clause-stopped
returns-in-None-clause-stopped g c f of given p =
    let r = c.args.prepared.ready in
    let s = source_over g.S.Source.seen c.args.input.now c.trace_values.new.input in
    prepared_stopped f s c.args.order of given (setting_beside r.interface p.operation r.side None)
    (subst (λ q. IsAllReady f of given (setting_beside r.interface p.operation r.side (option_map (λ u. u.graph) q))) c.in-None.is p.ready) c.trace_values.result
    (c.trace_values.ensures.stopped p.operation p.there)

pub returns-clause-made : goal.returns-clause-made
returns-clause-made g c f of given p =
    let r = c.args.prepared.ready in
    let s = source_over g.S.Source.seen c.args.input.now c.trace_values-in-Some.new.input in
    prepared_made f s c.args.order of given (setting_beside r.interface p.operation r.side (Some c.in-Some.request.graph))
    (subst (λ q. IsAllReady f of given (setting_beside r.interface p.operation r.side (option_map (λ u. u.graph) q))) c.in-Some.is p.ready) c.trace_values-in-Some.result
    (c.trace_values-in-Some.ensures.made p.operation p.there)

pub returns-clause-stopped : goal.returns-clause-stopped
returns-clause-stopped g c f of given p =
    let r = c.args.prepared.ready in
    let s = source_over g.S.Source.seen c.args.input.now c.trace_values-in-Some.new.input in
    prepared_stopped f s c.args.order of given (setting_beside r.interface p.operation r.side (Some c.in-Some.request.graph))
    (subst (λ q. IsAllReady f of given (setting_beside r.interface p.operation r.side (option_map (λ u. u.graph) q))) c.in-Some.is p.ready) c.trace_values-in-Some.result
    (c.trace_values-in-Some.ensures.stopped p.operation p.there)
