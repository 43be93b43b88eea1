use Rattle.std.proofs.Common.{refl, inl, inr}
use Rattle.std.proofs.lemmas.Result.{err_from_is_err_and}
use Rattle.nd_base.specs.Over.{FilesOver, files_over, source_over}
use Rattle.nd_value.specs.Fitting.{setting_of}
use Rattle.ndr_pipe.specs.Ends.{ends_over, ends_seen}
use Rattle.dceidl.specs.Asked.{drains}
use Rattle.command_line.specs.Commands.{subject_of}
use Rattle.dceidl.proofs.Causes.{ready_is, uncalled}
use Rattle.dceidl.proofs.Requests.{Follows, asks_request, beside_made, beside_refused}
use Rattle.dceidl.proofs.perform.perform_beside.Goals as goal

pub returns-in_err-ready-clause-asked : goal.returns-in_err-ready-clause-asked
returns-in_err-ready-clause-asked g c = record { files = inl c.in_err-ready.ensures.asked; input = tt; ends = uncalled (ends_seen g.E.PipeEnd.seen c.args.ends.now) (drains c.args.task) }

pub returns-in_err-ready-clause-refused : goal.returns-in_err-ready-clause-refused
returns-in_err-ready-clause-refused g c =
    let p = err_from_is_err_and c.from_residual.result c.from_residual.ensures.1 in
    rw (p.1, p.2) (inl (inl c.in_err-ready.ensures.refused, record { nothing_taken = refl; no_fault = refl }, refl))

pub returns-clause-asked : goal.returns-clause-asked
returns-clause-asked g c =
    let (o, found) = c.in_ok-ready.ensures.ready in
    let f1 = files_over g.F.Files.seen c.args.files.now c.make_ready.new.files in
    let f2 = files_over g.F.Files.seen c.make_ready.new.files c.perform_after.new.files in
    let follows : Follows f1 f2 =
    record { held = c.in_ok-ready.ensures.same; asked = refl; absences = refl; faults = refl; later = c.in_ok-ready.ensures.later; absences_later = c.in_ok-ready.ensures.absences_later } in
    let r = c.in_ok-ready.ready in
    record {
      files = inr (asks_request f1 f2 follows c.args.name.now (subject_of c.args.of) c.perform_after.ensures.asked r.interface r.number o found c.in_ok-ready.ensures.asked);
      input = tt;
      ends = c.perform_after.ensures.ends;
    }

pub returns-clause-done : goal.returns-clause-done
returns-clause-done g c =
    let (o, found) = c.in_ok-ready.ensures.ready in
    let f1 = files_over g.F.Files.seen c.args.files.now c.make_ready.new.files in
    let f2 = files_over g.F.Files.seen c.make_ready.new.files c.perform_after.new.files in
    let follows : Follows f1 f2 =
    record { held = c.in_ok-ready.ensures.same; asked = refl; absences = refl; faults = refl; later = c.in_ok-ready.ensures.later; absences_later = c.in_ok-ready.ensures.absences_later } in
    let r = c.in_ok-ready.ready in
    let s = source_over g.S.Source.seen c.args.input.now c.perform_after.new.input in
    let e = ends_over g.E.PipeEnd.seen c.args.ends.now c.perform_after.new.ends in
    beside_made f1 f2 follows c.args.name.now (subject_of c.args.of) c.perform_after.ensures.asked s e c.args.task (setting_of r.interface o r.side)
    (ready_is f1 (subject_of c.args.of) r.interface r.number o r.side found c.in_ok-ready.ensures.side)
    c.perform_after.result (c.perform_after.ensures.done o found.named.is_there)

pub returns-clause-refused : goal.returns-clause-refused
returns-clause-refused g c =
    let (o, found) = c.in_ok-ready.ensures.ready in
    let f1 = files_over g.F.Files.seen c.args.files.now c.make_ready.new.files in
    let f2 = files_over g.F.Files.seen c.make_ready.new.files c.perform_after.new.files in
    let follows : Follows f1 f2 =
    record { held = c.in_ok-ready.ensures.same; asked = refl; absences = refl; faults = refl; later = c.in_ok-ready.ensures.later; absences_later = c.in_ok-ready.ensures.absences_later } in
    let r = c.in_ok-ready.ready in
    let s = source_over g.S.Source.seen c.args.input.now c.perform_after.new.input in
    let e = ends_over g.E.PipeEnd.seen c.args.ends.now c.perform_after.new.ends in
    beside_refused f1 f2 follows c.args.name.now (subject_of c.args.of) c.perform_after.ensures.asked s e c.args.task (setting_of r.interface o r.side)
    (ready_is f1 (subject_of c.args.of) r.interface r.number o r.side found c.in_ok-ready.ensures.side)
    c.perform_after.result (c.perform_after.ensures.refused o found.named.is_there)
