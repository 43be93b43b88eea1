use Rattle.std.proofs.Common.{option_map, subst, sym}
use Rattle.nd_base.specs.Over.{files_over}
use Rattle.command_line.specs.Commands.{subject_of}
use Rattle.command_line.specs.Words.{Values}
use Rattle.dceidl.specs.Asked.{AsksFilesOf}
use Rattle.dceidl.proofs.prepared.prepare.Goals as goal

pub returns-in-None-clause-asked : goal.returns-in-None-clause-asked
returns-in-None-clause-asked g c task =
    let f = files_over g.F.Files.seen c.args.files.now c.prepare_alone.new.files in
    subst (λ n. AsksFilesOf f (Values task (subject_of c.args.of) (option_map (λ u. u.now) n))) (sym c.in-None.is) (c.prepare_alone.ensures.asked task)

pub returns-in-Some-clause-asked : goal.returns-in-Some-clause-asked
returns-in-Some-clause-asked g c task =
    let f = files_over g.F.Files.seen c.args.files.now c.prepare_beside.new.files in
    subst (λ n. AsksFilesOf f (Values task (subject_of c.args.of) (option_map (λ u. u.now) n))) (sym c.in-Some.is) (c.prepare_beside.ensures.asked task)
