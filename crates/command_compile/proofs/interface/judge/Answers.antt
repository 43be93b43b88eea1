use Rattle.std.specs.Prelude.{option_map}
use Rattle.std.proofs.Common.{subst, Option, Err}
use Rattle.std.proofs.lemmas.Result.{err_from_is_err_and}
use Rattle.nd_base.specs.Over.{files_over}
use Rattle.acf_reader.specs.Seen.{seen_acf}
use Rattle.acf_reader.specs.Grammar.{Acf}
use Rattle.idl_names.specs.Seen.{seen_scope}
use Rattle.idl_rule_definitions.specs.Checked.{world_of}
use Rattle.idl_check.specs.AcfRules.{AnswersBeside, IsMeaningBeside}
use Rattle.idl_rule_definitions.specs.declared.fault.RuleFault.TheVariants as fault
use Rattle.command_compile.specs.Idl.{reported_beside}
use Rattle.command_compile.specs.Loaded.{seen_beside}
use Rattle.command_compile.proofs.Judged.{broken, means_beside, beside_refused}
use Rattle.command_compile.proofs.interface.judge.Goals as goal

pub returns-in_err-beside-clause-err : goal.returns-in_err-beside-clause-err
returns-in_err-beside-clause-err g c idl text resolved =
    let p = err_from_is_err_and c.from_residual.result c.from_residual.ensures.1 in
    rw (p.1, p.2)
    (beside_refused (files_over g.F.Files.seen c.args.files.now c.load_beside.new.files) idl text
    (seen_scope idl.language c.args.sources.now c.args.scope.now) resolved (option_map (λ a. a.now) c.args.acf) _ c.in_err-beside.ensures.refused)

pub returns-in-Ok-clause-ok : goal.returns-in-Ok-clause-ok
returns-in-Ok-clause-ok g c idl text resolved =
    means_beside (g.F.Files.seen c.args.files.now).held idl text (option_map (λ a. a.now) c.args.acf) (seen_scope idl.language c.args.sources.now c.args.scope.now) resolved
    (seen_beside c.in_ok-beside.beside) c.in_ok-beside.ensures.beside c.in-Ok.interface
    (subst (λ (t : Option Acf). IsMeaningBeside (world_of c.args.scope.now) t c.in-Ok.interface) c.tree_of_beside.ensures c.in-Ok.ensures)

pub returns-clause-err : goal.returns-clause-err
returns-clause-err g c idl text resolved =
    broken (files_over g.F.Files.seen c.args.files.now c.load_beside.new.files) idl text (option_map (λ a. a.now) c.args.acf)
    (seen_scope idl.language c.args.sources.now c.args.scope.now) resolved (seen_beside c.in_ok-beside.beside) c.in_ok-beside.ensures.beside c.in-Err-Broken.rule c.in-Err-Broken.place
    (subst (λ (t : Option Acf). AnswersBeside (world_of c.args.scope.now) t (Err (fault.Broken c.in-Err-Broken.rule c.in-Err-Broken.place))) c.tree_of_beside.ensures
    (subst (λ e. AnswersBeside (world_of c.args.scope.now) (option_map (λ t. seen_acf t.now) c.tree_of_beside.result) (Err e)) c.in-Err-Broken.field-0-is
    c.in-Err-Broken.ensures))
    c.or_memory.result (c.or_memory.ensures (reported_beside c.args.sources.now (seen_beside c.in_ok-beside.beside) c.in-Err-Broken.rule c.in-Err-Broken.place) c.report_rule.ensures)
