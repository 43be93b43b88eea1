use Rattle.std.proofs.lemmas.Result.{err_from_is_err_and}
use Rattle.nd_base.specs.Over.{files_over}
use Rattle.command_line.specs.Commands.{subject_of}
use Rattle.dceidl.proofs.Causes.{found_is, find_refused, idl_refused}
use Rattle.dceidl.proofs.ready.make_ready.Goals as goal

pub returns-in_err-interface-clause-refused : goal.returns-in_err-interface-clause-refused
returns-in_err-interface-clause-refused g c =
    let p = err_from_is_err_and c.from_residual.result c.from_residual.ensures.1 in
    rw (p.1, p.2)
    (idl_refused (files_over g.F.Files.seen c.args.files.now c.compile.new.files) (subject_of c.args.of) _
    c.in_err-interface.ensures.err)

pub returns-clause-ready : goal.returns-clause-ready
returns-clause-ready g c =
    found_is (files_over g.F.Files.seen c.args.files.now c.compile.new.files) (subject_of c.args.of)
    c.in_ok-interface.interface c.in_ok-interface.ensures.ok c.find.result c.find.ensures.interface c.find.ensures.found c.find.ensures.side c.find.ensures.known

pub returns-clause-refused : goal.returns-clause-refused
returns-clause-refused g c =
    find_refused (files_over g.F.Files.seen c.args.files.now c.compile.new.files) (subject_of c.args.of)
    c.in_ok-interface.interface c.in_ok-interface.ensures.ok c.find.result c.find.ensures.refused
