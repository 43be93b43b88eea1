use Rattle.std.proofs.Common.{option_map, refl}
use Rattle.nd_base.specs.Over.{files_over, source_over}
use Rattle.command_line.specs.Commands.{subject_of}
use Rattle.command_line.specs.Words.{Command, Values}
use Rattle.command_line.specs.declared.command.Reading.TheVariants.{Trace}
use Rattle.command_line.specs.declared.command.Task.TheVariants.{Read}
use Rattle.dceidl.specs.Asked.{seen_over}
use Rattle.dceidl.proofs.Traces.{at_ends, stopped_at, unready_stopped}
use Rattle.dceidl.proofs.trace.traced.Goals as goal

pub returns-in-Ok-clause-outcome : goal.returns-in-Ok-clause-outcome
returns-in-Ok-clause-outcome g c e kept =
    let f = files_over g.F.Files.seen c.args.files.now c.prepare.new.files in
    let s = source_over g.S.Source.seen c.args.input.now c.trace_prepared.new.input in
    let of = subject_of c.args.tracing.of in
    let given = option_map (λ n. n.now) c.args.tracing.given in
    let wanted : Command = Values (Read Trace c.args.tracing.order) of given in
    c.traced_outcome.ensures (seen_over f s e) wanted refl refl
    (at_ends (λ k. seen_over f s k) wanted c.trace_prepared.result (c.trace_prepared.ensures.made f of given c.in-Ok.ensures.prepared) e)
    (stopped_at (λ k. seen_over f s k) wanted c.trace_prepared.result (c.trace_prepared.ensures.stopped f of given c.in-Ok.ensures.prepared) e kept)

pub returns-in-Err-clause-outcome : goal.returns-in-Err-clause-outcome
returns-in-Err-clause-outcome g c e kept =
    let f = files_over g.F.Files.seen c.args.files.now c.prepare.new.files in
    let s = source_over g.S.Source.seen c.args.input.now c.args.input.now in
    let of = subject_of c.args.tracing.of in
    let given = option_map (λ n. n.now) c.args.tracing.given in
    let wanted : Command = Values (Read Trace c.args.tracing.order) of given in
    c.stopped_outcome.ensures (seen_over f s e) wanted refl refl
    (unready_stopped (seen_over f s e) c.args.tracing.order of given c.in-Err.refusal c.in-Err.ensures.refused (record { nothing_taken = refl; no_fault = refl }) kept)

pub returns-in-Ok-clause-asked : goal.returns-in-Ok-clause-asked
returns-in-Ok-clause-asked g c = c.in-Ok.ensures.asked (Read Trace c.args.tracing.order)

pub returns-in-Err-clause-asked : goal.returns-in-Err-clause-asked
returns-in-Err-clause-asked g c = c.in-Err.ensures.asked (Read Trace c.args.tracing.order)
