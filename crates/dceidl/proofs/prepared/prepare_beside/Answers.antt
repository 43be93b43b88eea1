use Rattle.std.proofs.Common.{◌∙◌, refl, inl, inr}
use Rattle.std.proofs.lemmas.Result.{err_from_is_err_and}
use Rattle.nd_base.specs.Over.{files_over}
use Rattle.nd_value.specs.Fitting.{setting_of}
use Rattle.command_line.specs.Commands.{subject_of}
use Rattle.dceidl.proofs.Causes.{ready_is}
use Rattle.dceidl.proofs.Requests.{Follows, asks_request, has_asked, held_over, refused_over}
use Rattle.dceidl.proofs.prepared.prepare_beside.Goals as goal

pub returns-in_err-ready-clause-asked : goal.returns-in_err-ready-clause-asked
returns-in_err-ready-clause-asked g c task = inl c.in_err-ready.ensures.asked

pub returns-in_err-ready-clause-refused : goal.returns-in_err-ready-clause-refused
returns-in_err-ready-clause-refused g c =
    let p = err_from_is_err_and c.from_residual.result c.from_residual.ensures.1 in
    rw (p.1, p.2) (inl c.in_err-ready.ensures.refused)

pub returns-in_err-request-clause-asked : goal.returns-in_err-request-clause-asked
returns-in_err-request-clause-asked g c task =
    let (o, found) = c.in_ok-ready.ensures.ready in
    let f1 = files_over g.F.Files.seen c.args.files.now c.make_ready.new.files in
    let f2 = files_over g.F.Files.seen c.make_ready.new.files c.load_request.new.files in
    let follows : Follows f1 f2 =
    record { held = c.in_ok-ready.ensures.same; asked = refl; absences = refl; faults = refl; later = c.in_ok-ready.ensures.later; absences_later = c.in_ok-ready.ensures.absences_later } in
    let r = c.in_ok-ready.ready in
    inr (asks_request f1 f2 follows c.args.name.now (subject_of c.args.of) c.in_err-request.ensures.asked r.interface r.number o found c.in_ok-ready.ensures.asked)

pub returns-in_err-request-clause-refused : goal.returns-in_err-request-clause-refused
returns-in_err-request-clause-refused g c =
    let p = err_from_is_err_and c.from_residual-in_err-request.result c.from_residual-in_err-request.ensures.1 in
    let (o, found) = c.in_ok-ready.ensures.ready in
    let f1 = files_over g.F.Files.seen c.args.files.now c.make_ready.new.files in
    let f2 = files_over g.F.Files.seen c.make_ready.new.files c.load_request.new.files in
    let follows : Follows f1 f2 =
    record { held = c.in_ok-ready.ensures.same; asked = refl; absences = refl; faults = refl; later = c.in_ok-ready.ensures.later; absences_later = c.in_ok-ready.ensures.absences_later } in
    let r = c.in_ok-ready.ready in
    let own = setting_of r.interface o r.side in
    rw (p.1, p.2)
    (inr (record {
      own = own;
      has_asked =
          has_asked f1 f2 follows c.args.name.now (subject_of c.args.of) c.in_err-request.ensures.asked own
          (ready_is f1 (subject_of c.args.of) r.interface r.number o r.side found c.in_ok-ready.ensures.side);
      cause = refused_over f1 f2 follows c.args.name.now own _ (c.in_err-request.ensures.refused o own found.named.is_there refl);
    }))

pub returns-clause-asked : goal.returns-clause-asked
returns-clause-asked g c task =
    let (o, found) = c.in_ok-ready.ensures.ready in
    let f1 = files_over g.F.Files.seen c.args.files.now c.make_ready.new.files in
    let f2 = files_over g.F.Files.seen c.make_ready.new.files c.load_request.new.files in
    let follows : Follows f1 f2 =
    record { held = c.in_ok-ready.ensures.same; asked = refl; absences = refl; faults = refl; later = c.in_ok-ready.ensures.later; absences_later = c.in_ok-ready.ensures.absences_later } in
    let r = c.in_ok-ready.ready in
    inr (asks_request f1 f2 follows c.args.name.now (subject_of c.args.of) c.in_ok-request.ensures.asked r.interface r.number o found c.in_ok-ready.ensures.asked)

pub returns-clause-prepared : goal.returns-clause-prepared
returns-clause-prepared g c =
    let (o, found) = c.in_ok-ready.ensures.ready in
    let f1 = files_over g.F.Files.seen c.args.files.now c.make_ready.new.files in
    let f2 = files_over g.F.Files.seen c.make_ready.new.files c.load_request.new.files in
    let follows : Follows f1 f2 =
    record { held = c.in_ok-ready.ensures.same; asked = refl; absences = refl; faults = refl; later = c.in_ok-ready.ensures.later; absences_later = c.in_ok-ready.ensures.absences_later } in
    let r = c.in_ok-ready.ready in
    let own = setting_of r.interface o r.side in
    record {
      operation = o;
      there = found.named.is_there;
      ready = record {
        own = own;
        has_asked =
            has_asked f1 f2 follows c.args.name.now (subject_of c.args.of) c.in_ok-request.ensures.asked own
            (ready_is f1 (subject_of c.args.of) r.interface r.number o r.side found c.in_ok-ready.ensures.side);
        request = c.in_ok-request.request.graph;
        holds = held_over f1 f2 follows c.args.name.now own c.in_ok-request.request.graph (c.in_ok-request.ensures.request o own found.named.is_there refl);
        setting_is = refl;
      };
      request = record {
        interface = c.in_ok-request.ensures.tied;
        op = c.in_ok-request.ensures.number;
        side = c.in_ok-request.ensures.side;
        judged = c.in_ok-ready.ensures.side ∙ c.requires.outputs;
      };
    }
