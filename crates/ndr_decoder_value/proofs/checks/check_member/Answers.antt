use mir.Val.{SFits, of_z, to_z}
use mir.Syntax.{w128}
use Rattle.std.proofs.Common.{rules, ℤ, ◌+◌, ◌∙◌, ◌∷◌, [], Option, slice_get, ap, ap₂, sym, subst}
use Rattle.std.proofs.lemmas.Int.{to_z-of_z}
use Rattle.nd_value.specs.Agreement.{agreement, wanted_by}
use Rattle.ndr_decoder_laws.specs.declared.first.First.{First}
use Rattle.ndr_decoder_laws.specs.declared.first.Member.{Member}
use Rattle.ndr_decoder_laws.specs.steps.Steps.{Outcome, goes, checked}
use Rattle.ndr_decoder_state.specs.Seen.{state_of, Does}
use Rattle.ndr_decoder_value.proofs.Agreements.{none_checked}
use Rattle.ndr_decoder_value.proofs.checks.check_member.Goals as goal

pub returns-in_default-clause-does : goal.returns-in_default-clause-does
returns-in_default-clause-does c =
    let s = state_of c.args.machine.now in
    let member : Option Member = slice_get s.members (c.args.first + c.args.field) in
    let of : Option First = slice_get s.firsts (c.args.first + c.args.field) in
    ap (λ (z : Option ℤ). checked (agreement c.args.attr z) member of s) (sym c.number_at.ensures.is ∙ c.in_default.is)
    ∙ none_checked member of s
    ∙ ap goes (sym c.skip.ensures.is)

pub returns-clause-does : goal.returns-clause-does
returns-clause-does c =
    let s = state_of c.args.machine.now in
    let a = c.args.attr in
    let member : Option Member = slice_get s.members (c.args.first + c.args.field) in
    let of : Option First = slice_get s.firsts (c.args.first + c.args.field) in
    let fits : SFits w128 c.in-Some.number = search rules in
    let stated : SFits w128 c.wanted_of.result = search rules in
    let is =
    ap (λ (z : Option ℤ). checked (agreement a z) member of s) (sym c.number_at.ensures.is ∙ c.in-Some.is)
    ∙ ap (λ (z : ℤ). checked (record { attr = a; wanted = wanted_by a z } ∷ []) member of s) (sym (to_z-of_z w128 c.in-Some.number fits))
    ∙ ap (λ (z : ℤ). checked (record { attr = a; wanted = z } ∷ []) member of s) (sym c.wanted_of.ensures ∙ sym (to_z-of_z w128 c.wanted_of.result stated))
    ∙ ap₂ (λ (m : Option Member) (x : Option First). checked (record { attr = a; wanted = to_z w128 (of_z w128 c.wanted_of.result) } ∷ []) m x s)
    (sym c.member_at-member.ensures) (sym c.first_at-of.ensures) in
    subst (λ (o : Outcome). Does o c.check_wanted.result (state_of c.check_wanted.new.machine)) (sym is) c.check_wanted.ensures.does
