use Rattle.std.proofs.Common.{refl, inl}
use Rattle.std.proofs.lemmas.Result.{err_from_is_err_and}
use Rattle.nd_base.specs.Over.{files_over, source_over}
use Rattle.nd_value.specs.Fitting.{setting_of}
use Rattle.ndr_pipe.specs.Ends.{ends_over}
use Rattle.command_line.specs.Commands.{subject_of}
use Rattle.dceidl.specs.Asked.{seen_over}
use Rattle.dceidl.proofs.Causes.{ready_is, values_made, values_refused}
use Rattle.dceidl.proofs.perform.perform_alone.Goals as goal

pub returns-in_err-ready-clause-refused : goal.returns-in_err-ready-clause-refused
returns-in_err-ready-clause-refused g c =
    let p = err_from_is_err_and c.from_residual.result c.from_residual.ensures.1 in
    rw (p.1, p.2) (inl (c.in_err-ready.ensures.refused, record { nothing_taken = refl; no_fault = refl }, refl))

pub returns-clause-done : goal.returns-clause-done
returns-clause-done g c =
    let (o, found) = c.in_ok-ready.ensures.ready in
    let f = files_over g.F.Files.seen c.args.files.now c.make_ready.new.files in
    let s = source_over g.S.Source.seen c.args.input.now c.perform_task.new.input in
    let e = ends_over g.E.PipeEnd.seen c.args.ends.now c.perform_task.new.ends in
    let r = c.in_ok-ready.ready in
    values_made (seen_over f s e) (subject_of c.args.of) (setting_of r.interface o r.side) c.args.task
    (ready_is f (subject_of c.args.of) r.interface r.number o r.side found c.in_ok-ready.ensures.side) c.perform_task.result (c.perform_task.ensures.done o found.named.is_there)

pub returns-clause-refused : goal.returns-clause-refused
returns-clause-refused g c =
    let (o, found) = c.in_ok-ready.ensures.ready in
    let f = files_over g.F.Files.seen c.args.files.now c.make_ready.new.files in
    let s = source_over g.S.Source.seen c.args.input.now c.perform_task.new.input in
    let e = ends_over g.E.PipeEnd.seen c.args.ends.now c.perform_task.new.ends in
    let r = c.in_ok-ready.ready in
    values_refused (seen_over f s e) (subject_of c.args.of) (setting_of r.interface o r.side) c.args.task
    (ready_is f (subject_of c.args.of) r.interface r.number o r.side found c.in_ok-ready.ensures.side) c.perform_task.result (c.perform_task.ensures.refused o found.named.is_there)
