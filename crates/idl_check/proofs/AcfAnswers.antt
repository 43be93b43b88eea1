-- What is answered beside an attribute configuration file, from what is answered without it.
use Rattle.std.proofs.Common.{◌≡◌, ◌∙◌, ℕ, Option, Some, None, Result, Ok, Err, refl, ap, sym, subst, [], ◌∷◌}
use Rattle.std.specs.Result.{IsErrAnd}
use Rattle.nd_base.specs.declared.octets.Place.{Place}
use Rattle.nd_types.specs.declared.interface.Interface.{Interface}
use Rattle.acf_reader.specs.Grammar.{Acf}
use Rattle.idl_rule_definitions.specs.declared.fault.RuleFault.{RuleFault}
use Rattle.idl_rule_definitions.specs.declared.fault.RuleFault.TheVariants as fault
use Rattle.idl_rule_definitions.specs.Nodes.{World}
use Rattle.idl_rule_definitions.specs.Rules.{Breach, breach, first_of, first_broken}
use Rattle.idl_rule_definitions.specs.Answers.{Answers, IsMeaning}
use Rattle.idl_check.specs.AcfRules.{acf_breaches, first_of_all, or_else, AnswersBeside, IsMeaningBeside}
use Rattle.idl_check.proofs.AcfLast.{acf_behind, none_beside}

-- a rule that is reported without the file is reported beside it
pub told_beside : (w : World) (f : Option Acf) (e : RuleFault) → Answers w (Err e) → AnswersBeside w f (Err e)
told_beside w f fault.Memory h = tt
told_beside w f (fault.Broken rule place) h = acf_behind w f ∙ ap (λ b. or_else b (first_of w (acf_breaches w f))) h

-- the same of an answer that passes it on
pub told_on : (w : World) (f : Option Acf) (e : RuleFault) (r : Result Interface RuleFault) → IsErrAnd r (λ x. x ≡ e) → Answers w (Err e) → AnswersBeside w f r
told_on w f e (Ok i) h a = absurd h
told_on w f e (Err x) h a = subst (λ (y : RuleFault). AnswersBeside w f (Err y)) (sym h) (told_beside w f e a)

-- no file
pub alone : (w : World) (i : Interface) → IsMeaning w i → IsMeaningBeside w None i
alone w i h = record { keeps = none_beside w ∙ h.keeps; means = h.means }

-- the rule on the file is reported
pub last_told : (w : World) (f : Acf) (b : Breach) (i : Interface) → IsMeaning w i → first_of w (acf_breaches w (Some f)) ≡ Some b → first_of_all w (Some f) ≡ Some b
last_told w f b i h e = acf_behind w (Some f) ∙ ap (λ a. or_else a (first_of w (acf_breaches w (Some f)))) h.keeps ∙ e

-- the file keeps it
pub kept_beside : (w : World) (f : Acf) (i : Interface) → IsMeaning w i → first_of w (acf_breaches w (Some f)) ≡ None → IsMeaningBeside w (Some f) i
kept_beside w f i h e = record {
  keeps = acf_behind w (Some f) ∙ ap (λ a. or_else a (first_of w (acf_breaches w (Some f)))) h.keeps ∙ e;
  means = h.means;
}
