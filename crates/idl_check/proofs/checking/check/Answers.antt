use Rattle.std.proofs.Common.{◌≡◌, ◌∙◌, Option, Some, None, Err, option_map, ap, sym, subst}
use Rattle.acf_reader.specs.Seen.{seen_acf}
use Rattle.idl_rule_definitions.specs.declared.fault.RuleFault.{RuleFault}
use Rattle.idl_rule_definitions.specs.Checked.{world_of}
use Rattle.idl_rule_definitions.specs.Found.{seen_breach}
use Rattle.idl_check.specs.AcfRules.{AnswersBeside, IsMeaningBeside}
use Rattle.idl_check.proofs.AcfAnswers.{told_on, alone, last_told, kept_beside}
use Rattle.idl_check.proofs.checking.check.Goals as goal

-- told without the file
pub returns-in_err-interface : goal.returns-in_err-interface
returns-in_err-interface c =
    told_on (world_of c.args.scope.now) (option_map (λ f. seen_acf f.now) c.args.acf) c.in_err-interface.field-0.0 c.from_residual.result c.from_residual.ensures.1
    c.in_err-interface.ensures

-- no file
pub returns-in_default : goal.returns-in_default
returns-in_default c =
    let w = world_of c.args.scope.now in
    subst (λ o. IsMeaningBeside w (option_map (λ f. seen_acf f.now) o) c.in_ok-interface.interface) (sym c.in_default.is)
    (alone w c.in_ok-interface.interface c.in_ok-interface.ensures)

-- told of the file
pub returns-in-Some-2 : goal.returns-in-Some-2
returns-in-Some-2 c =
    let w = world_of c.args.scope.now in
    let f = seen_acf c.in-Some.acf.now in
    let told = sym c.in_ok-first.ensures ∙ ap (option_map seen_breach) c.in-Some-2.is in
    subst (λ o. AnswersBeside w (option_map (λ f. seen_acf f.now) o) (Err c.broken.result)) (sym c.in-Some.is)
    (subst (λ (e : RuleFault). AnswersBeside w (Some f) (Err e)) (sym c.broken.ensures)
    (last_told w f (seen_breach c.in-Some-2.first) c.in_ok-interface.interface c.in_ok-interface.ensures told))

-- kept by the file
pub returns-in-None : goal.returns-in-None
returns-in-None c =
    let w = world_of c.args.scope.now in
    subst (λ o. IsMeaningBeside w (option_map (λ f. seen_acf f.now) o) c.in_ok-interface.interface) (sym c.in-Some.is)
    (kept_beside w (seen_acf c.in-Some.acf.now) c.in_ok-interface.interface c.in_ok-interface.ensures
    (sym c.in_ok-first.ensures ∙ ap (option_map seen_breach) c.in-None.is))
