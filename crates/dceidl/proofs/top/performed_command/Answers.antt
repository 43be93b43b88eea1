use Rattle.std.proofs.Common.{option_map, refl, sym, subst}
use Rattle.idl_grammar.specs.Files.{seen_idl}
use Rattle.nd_base.specs.Over.{files_over, source_over}
use Rattle.ndr_pipe.specs.Ends.{ends_over}
use Rattle.command_line.specs.Words as words
use Rattle.dceidl.specs.Run.{IsCommandOutcome}
use Rattle.dceidl.specs.Asked.{seen_over}
use Rattle.dceidl.proofs.Places.{compared_outcome}
use Rattle.dceidl.proofs.top.performed_command.Goals as goal

pub returns-in-Some-clause-outcome : goal.returns-in-Some-clause-outcome
returns-in-Some-clause-outcome g c =
    let f = files_over g.F.Files.seen c.args.files.now c.traced.new.files in
    let s = source_over g.S.Source.seen c.args.input.now c.traced.new.input in
    let e = ends_over g.E.PipeEnd.seen c.args.ends.now c.args.ends.now in
    subst (λ (k : words.Command). IsCommandOutcome (seen_over f s e) k c.traced.result) (sym c.in-Some.ensures.some) (c.traced.ensures.outcome e refl)

pub returns-in-Some-asked_versions-clause-outcome : goal.returns-in-Some-asked_versions-clause-outcome
returns-in-Some-asked_versions-clause-outcome g c =
    let x = seen_over (files_over g.F.Files.seen c.args.files.now c.compared.new.files)
    (source_over g.S.Source.seen c.args.input.now c.args.input.now) (ends_over g.E.PipeEnd.seen c.args.ends.now c.args.ends.now)
    in
    let v = c.in-Some-asked_versions.versions in
    compared_outcome x (seen_idl v.old) (option_map (λ a. a.now) v.old_acf) (seen_idl v.new) (option_map (λ a. a.now) v.new_acf) _ c.compared.result c.in-Some-asked_versions.ensures.some
    c.compared.ensures.outcome
