use Rattle.std.specs.Prelude.{option_map}
use Rattle.std.proofs.Common.{refl, sym, subst, []}
use Rattle.std.proofs.lemmas.Result.{err_from_is_err_and, IfOk-weaker, IfErr-weaker}
use Rattle.idl_grammar.specs.Files.{seen_idl}
use Rattle.nd_base.specs.Over.{IsContent, files_over}
use Rattle.command_compile.proofs.AskedFiles.{main_asked}
use Rattle.command_compile.proofs.Compiled.{after_load, main_not_loaded, asks_after, compiled_after}
use Rattle.command_compile.proofs.interface.compile.Goals as goal

pub returns-in_err-text-clause-asked : goal.returns-in_err-text-clause-asked
returns-in_err-text-clause-asked g c =
    (_, c.in_err-text.ensures.asked, main_asked (g.F.Files.seen c.args.files.now).held (seen_idl c.args.idl) (option_map (λ a. a.now) c.args.acf))

pub returns-in_err-text-clause-err : goal.returns-in_err-text-clause-err
returns-in_err-text-clause-err g c =
    let p = err_from_is_err_and c.from_residual.result c.from_residual.ensures.1 in
    rw (p.1, p.2)
    (main_not_loaded (files_over g.F.Files.seen c.args.files.now c.load.new.files) (seen_idl c.args.idl)
    (option_map (λ a. a.now) c.args.acf) _ c.in_err-text.ensures.refused)

pub compile_text-requires : goal.compile_text-requires
compile_text-requires g c = subst (λ h. IsContent h c.args.idl.name.now c.in_ok-text.text) (sym c.in_ok-text.ensures.same) c.in_ok-text.ensures.content

pub returns-clause-asked : goal.returns-clause-asked
returns-clause-asked g c =
    asks_after (files_over g.F.Files.seen c.args.files.now c.compile_text.new.files)
    (files_over g.F.Files.seen c.load.new.files c.compile_text.new.files)
    (seen_idl c.args.idl) (option_map (λ a. a.now) c.args.acf) c.in_ok-text.ensures.same c.in_ok-text.ensures.asked refl c.compile_text.ensures.asked

pub returns-clause-ok : goal.returns-clause-ok
returns-clause-ok g c =
    IfOk-weaker c.compile_text.result _ _
    (λ i m. compiled_after (files_over g.F.Files.seen c.args.files.now c.compile_text.new.files)
    (files_over g.F.Files.seen c.load.new.files c.compile_text.new.files)
    (seen_idl c.args.idl) c.in_ok-text.text (option_map (λ a. a.now) c.args.acf) c.in_ok-text.ensures.content c.in_ok-text.ensures.same c.in_ok-text.ensures.asked refl i m)
    c.compile_text.ensures.ok

pub returns-clause-err : goal.returns-clause-err
returns-clause-err g c =
    IfErr-weaker c.compile_text.result _ _
    (λ e cause. after_load (files_over g.F.Files.seen c.args.files.now c.compile_text.new.files)
    (files_over g.F.Files.seen c.load.new.files c.compile_text.new.files)
    (seen_idl c.args.idl) c.in_ok-text.text (option_map (λ a. a.now) c.args.acf) e c.in_ok-text.ensures.content c.in_ok-text.ensures.same
    c.in_ok-text.ensures.absences_later refl c.in_ok-text.ensures.later refl cause)
    c.compile_text.ensures.err
