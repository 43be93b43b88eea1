use Rattle.std.proofs.Common.{◌≡◌, ◌∙◌, ◌∷◌, [], Option, Some, ap, ap₂, sym, subst}
use Rattle.ndr_decoder_laws.specs.declared.first.First.{First}
use Rattle.ndr_decoder_laws.specs.declared.first.Member.{Member}
use Rattle.ndr_decoder_laws.specs.steps.Steps.{Outcome, goes, checked}
use Rattle.ndr_decoder_state.specs.Seen.{state_of, agreement_of, Does}
use Rattle.ndr_decoder_value.proofs.Agreements.{other_checked, tried_held, tried_refused}
use Rattle.ndr_decoder_value.proofs.checks.check_wanted.Goals as goal

pub returns-in_err-try_in-clause-does : goal.returns-in_err-try_in-clause-does
returns-in_err-try_in-clause-does c =
    let s = state_of c.args.machine.now in
    let w = agreement_of c.args.wanted in
    let is : checked (w ∷ []) c.args.member c.args.of s ≡ checked (w ∷ []) (Some c.in-Some.member) (Some c.in-Some-of.of) s =
    ap₂ (λ (m : Option Member) (x : Option First). checked (w ∷ []) m x s) c.in-Some.is c.in-Some-of.is in
    subst (λ (o : Outcome). Does o c.from_residual.result s) (sym is)
    (tried_refused w c.in-Some.member c.in-Some-of.of s s c.in_err-try_in.field-0.0 c.from_residual.result c.from_residual.ensures.1
    (sym c.is_pointer.ensures ∙ c.if-is_pointer.false) c.in_err-try_in.ensures)

pub returns-clause-does : goal.returns-clause-does
returns-clause-does c =
    let s = state_of c.args.machine.now in
    let w = agreement_of c.args.wanted in
    ap₂ (λ (m : Option Member) (x : Option First). checked (w ∷ []) m x s) c.in-Some.is c.in-Some-of.is
    ∙ other_checked w c.in-Some.member c.in-Some-of.of s (sym c.is_pointer.ensures ∙ c.if-is_pointer.false)
    ∙ tried_held w c.in-Some-of.of s c.in_ok-try_in.ensures
    ∙ ap goes (sym c.skip-2.ensures.is)
