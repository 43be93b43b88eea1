use Rattle.std.proofs.Common.{sym, subst}
use Rattle.std.specs.Prelude.{IfOk, IfErr}
use Rattle.nd_base.specs.Over.{files_over, source_over}
use Rattle.ndr_pipe.specs.Ends.{ends_over}
use Rattle.command_line.specs.Commands.{command_of}
use Rattle.command_line.specs.declared.command.Command as words
use Rattle.dceidl.specs.Causes.{IsMade, IsCause}
use Rattle.dceidl.specs.Asked.{seen_over}
use Rattle.dceidl.proofs.perform.perform.Goals as goal

pub returns-in-Call-clause-done : goal.returns-in-Call-clause-done
returns-in-Call-clause-done g c =
    let x = seen_over (files_over g.F.Files.seen c.args.files.now c.call.new.files)
    (source_over g.S.Source.seen c.args.input.now c.call.new.input) (ends_over g.E.PipeEnd.seen c.args.ends.now c.args.ends.now)
    in
    let P : words.Command → Type 0 = λ k. IfOk c.call.result (IsMade x (command_of k)) in
    subst P (sym c.in-Call.is) c.call.ensures.done

pub returns-in-Call-clause-refused : goal.returns-in-Call-clause-refused
returns-in-Call-clause-refused g c =
    let x = seen_over (files_over g.F.Files.seen c.args.files.now c.call.new.files)
    (source_over g.S.Source.seen c.args.input.now c.call.new.input) (ends_over g.E.PipeEnd.seen c.args.ends.now c.args.ends.now)
    in
    let P : words.Command → Type 0 = λ k. IfErr c.call.result (IsCause x (command_of k)) in
    subst P (sym c.in-Call.is) c.call.ensures.refused
