use Rattle.std.specs.Prelude.{option_map, option_to_list, drop}
use Rattle.std.proofs.Common.{refl, sym, subst, ap, ◌∙◌, ◌++◌, [], append-nil}
use Rattle.std.proofs.lemmas.Result.{IfOk-weaker, IfErr-weaker}
use Rattle.idl_grammar.specs.Files.{seen_idl}
use Rattle.nd_base.specs.Over.{files_over}
use Rattle.idl_names.specs.Seen.{seen_scope}
use Rattle.command_compile.specs.Idl.{AreResolved, reported_fault}
use Rattle.command_compile.specs.Reading.{IsJudged}
use Rattle.command_compile.proofs.AskedFiles.{main_asked}
use Rattle.command_compile.proofs.Compiled.{after, text_cause, resolved_asks, resolved_means}
use Rattle.command_compile.proofs.interface.compile_text.Goals as goal

pub returns-in_err-sources-clause-asked : goal.returns-in_err-sources-clause-asked
returns-in_err-sources-clause-asked g c = record {
  rest = [];
  asked = sym (append-nil (g.F.Files.seen c.args.files.now).asked);
  are_asked = main_asked (g.F.Files.seen c.args.files.now).held (seen_idl c.args.idl) (option_map (λ a. a.now) c.args.acf);
}

pub returns-in-Ok-clause-asked : goal.returns-in-Ok-clause-asked
returns-in-Ok-clause-asked g c =
    let acf = option_map (λ a. a.now) c.args.acf in
    let resolved = c.in-Ok.ensures.scope c.args.idl.name.now c.args.text c.in_ok-sources.ensures in
    resolved_asks (files_over g.F.Files.seen c.args.files.now c.judge.new.files) (seen_idl c.args.idl) c.args.text acf
    (seen_scope c.args.idl.language c.scope_of.new.sources c.in-Ok.scope) c.requires resolved
    (c.judge.ensures.asked ∙ ap (λ l. l ++ option_to_list acf) c.in-Ok.ensures.all_asked)

pub returns-in-Ok-clause-ok : goal.returns-in-Ok-clause-ok
returns-in-Ok-clause-ok g c =
    let acf = option_map (λ a. a.now) c.args.acf in
    let resolved = c.in-Ok.ensures.scope c.args.idl.name.now c.args.text c.in_ok-sources.ensures in
    let here = subst (λ h. AreResolved h (seen_idl c.args.idl) c.args.text (seen_scope c.args.idl.language c.scope_of.new.sources c.in-Ok.scope)) (sym c.in-Ok.ensures.same) resolved in
    IfOk-weaker c.judge.result _ _
    (λ i j. resolved_means (files_over g.F.Files.seen c.args.files.now c.judge.new.files) (seen_idl c.args.idl) c.args.text acf
    (seen_scope c.args.idl.language c.scope_of.new.sources c.in-Ok.scope) c.requires resolved
    (c.judge.ensures.asked ∙ ap (λ l. l ++ option_to_list acf) c.in-Ok.ensures.all_asked) i
    (subst (λ h. IsJudged h (seen_idl c.args.idl) c.args.text acf (seen_scope c.args.idl.language c.scope_of.new.sources c.in-Ok.scope) i) c.in-Ok.ensures.same j))
    (c.judge.ensures.ok (seen_idl c.args.idl) c.args.text here)

pub returns-in-Ok-clause-err : goal.returns-in-Ok-clause-err
returns-in-Ok-clause-err g c =
    let acf = option_map (λ a. a.now) c.args.acf in
    let resolved = c.in-Ok.ensures.scope c.args.idl.name.now c.args.text c.in_ok-sources.ensures in
    let here = subst (λ h. AreResolved h (seen_idl c.args.idl) c.args.text (seen_scope c.args.idl.language c.scope_of.new.sources c.in-Ok.scope)) (sym c.in-Ok.ensures.same) resolved in
    IfErr-weaker c.judge.result _ _
    (λ e cause. after (files_over g.F.Files.seen c.args.files.now c.judge.new.files)
    (files_over g.F.Files.seen c.scope_of.new.files c.judge.new.files)
    (seen_idl c.args.idl) c.args.text acf e c.in-Ok.ensures.same c.in-Ok.ensures.absences_later refl c.in-Ok.ensures.later refl cause)
    (c.judge.ensures.err (seen_idl c.args.idl) c.args.text here)

pub returns-clause-asked : goal.returns-clause-asked
returns-clause-asked g c =
    let a = c.in-Err.ensures.asked c.args.idl.name.now c.args.text c.in_ok-sources.ensures in
    record { rest = a.rest; asked = a.asked_is; are_asked = a.due c.requires (option_map (λ a. a.now) c.args.acf) }

pub returns-clause-err : goal.returns-clause-err
returns-clause-err g c =
    text_cause (files_over g.F.Files.seen c.args.files.now c.scope_of.new.files) (seen_idl c.args.idl) c.args.text
    (option_map (λ a. a.now) c.args.acf)
    c.scope_of.new.sources c.in-Err.fault (c.in-Err.ensures.fault c.args.idl.name.now c.args.text c.in_ok-sources.ensures)
    c.in-Err.ensures.absent c.in-Err.ensures.failed c.or_memory.result
    (c.or_memory.ensures (reported_fault c.scope_of.new.sources c.in-Err.fault) c.report_fault.ensures)
