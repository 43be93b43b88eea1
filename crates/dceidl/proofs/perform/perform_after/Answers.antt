use Rattle.std.proofs.Common.{refl, inl}
use Rattle.std.proofs.lemmas.Result.{err_from_is_err_and}
use Rattle.nd_base.specs.Over.{files_over, source_over}
use Rattle.nd_value.specs.Fitting.{setting_of}
use Rattle.ndr_pipe.specs.Ends.{ends_over}
use Rattle.dceidl.proofs.Requests.{after_made, after_refused}
use Rattle.dceidl.proofs.perform.perform_after.Goals as goal

pub returns-in_err-request-clause-refused : goal.returns-in_err-request-clause-refused
returns-in_err-request-clause-refused g c o there =
    let p = err_from_is_err_and c.from_residual.result c.from_residual.ensures.1 in
    rw (p.1, p.2) (inl (c.in_err-request.ensures.refused o (setting_of c.args.ready.now.interface o c.args.ready.now.side) there refl, record { nothing_taken = refl; no_fault = refl }, refl))

pub returns-clause-done : goal.returns-clause-done
returns-clause-done g c o there =
    let f = files_over g.F.Files.seen c.args.files.now c.load_request.new.files in
    let s = source_over g.S.Source.seen c.args.input.now c.perform_task.new.input in
    let e = ends_over g.E.PipeEnd.seen c.args.ends.now c.perform_task.new.ends in
    let w = setting_of c.args.ready.now.interface o c.args.ready.now.side in
    after_made f s e c.args.name.now c.args.task w c.in_ok-request.request.graph (c.in_ok-request.ensures.request o w there refl)
    c.perform_task.result (c.perform_task.ensures.done o there)

pub returns-clause-refused : goal.returns-clause-refused
returns-clause-refused g c o there =
    let f = files_over g.F.Files.seen c.args.files.now c.load_request.new.files in
    let s = source_over g.S.Source.seen c.args.input.now c.perform_task.new.input in
    let e = ends_over g.E.PipeEnd.seen c.args.ends.now c.perform_task.new.ends in
    let w = setting_of c.args.ready.now.interface o c.args.ready.now.side in
    after_refused f s e c.args.name.now c.args.task w c.in_ok-request.request.graph (c.in_ok-request.ensures.request o w there refl)
    c.perform_task.result (c.perform_task.ensures.refused o there)
