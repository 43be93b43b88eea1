use Rattle.std.proofs.lemmas.Result.{err_from_is_err_and}
use Rattle.nd_base.specs.Over.{files_over}
use Rattle.command_line.specs.Commands.{subject_of}
use Rattle.dceidl.proofs.Causes.{ready_is}
use Rattle.dceidl.proofs.prepared.prepare_alone.Goals as goal

pub returns-in_err-ready-clause-asked : goal.returns-in_err-ready-clause-asked
returns-in_err-ready-clause-asked g c task = c.in_err-ready.ensures.asked

pub returns-in_err-ready-clause-refused : goal.returns-in_err-ready-clause-refused
returns-in_err-ready-clause-refused g c =
    let p = err_from_is_err_and c.from_residual.result c.from_residual.ensures.1 in
    rw (p.1, p.2) c.in_err-ready.ensures.refused

pub returns-clause-asked : goal.returns-clause-asked
returns-clause-asked g c task = c.in_ok-ready.ensures.asked

pub returns-clause-prepared : goal.returns-clause-prepared
returns-clause-prepared g c =
    let (o, found) = c.in_ok-ready.ensures.ready in
    let f = files_over g.F.Files.seen c.args.files.now c.make_ready.new.files in
    let r = c.in_ok-ready.ready in
    record {
      operation = o;
      there = found.named.is_there;
      ready = ready_is f (subject_of c.args.of) r.interface r.number o r.side found c.in_ok-ready.ensures.side;
      request = tt;
    }
