use mir.Val.{SFits, of_z, to_z}
use mir.Syntax.{w128}
use Rattle.std.proofs.Common.{rules, ℤ, List, Option, ap, sym, ◌∙◌}
use Rattle.std.proofs.lemmas.Int.{to_z-of_z}
use Rattle.nd_types.specs.declared.types.Primitive.{Primitive}
use Rattle.nd_types.specs.Number.{value_of_octets}
use Rattle.nd_grammar.specs.Refusal.{is_enumerator}
use Rattle.ndr_code.specs.Code.{enumerators}
use Rattle.ndr_decoder_laws.specs.steps.Steps.{goes, next, with_tag, form_by}
use Rattle.ndr_decoder_state.specs.Seen.{state_of}
use Rattle.ndr_decoder_value.proofs.Tagged.{tag_known, form_values}
use Rattle.ndr_decoder_value.proofs.unions.tag.Goals as goal

pub returns-clause-does : goal.returns-clause-does
returns-clause-does c =
    let s = state_of c.args.machine.now in
    let enums : Option (List ℤ) = enumerators c.args.values.now c.args.of.0 in
    let form = form_by c.args.of.0 enums in
    let fits : SFits w128 c.read_value-value.result = search rules in
    let z : ℤ = to_z w128 (of_z w128 c.read_value-value.result) in
    let e =
    to_z-of_z w128 c.read_value-value.result fits ∙ c.read_value-value.ensures.value
    ∙ ap (λ (p : Primitive). value_of_octets c.args.order p c.args.octets.now) c.carrier_of-carrier.ensures in
    let h = ap (λ (o : Option (List ℤ)). is_enumerator o z) (form_values c.args.of.0 enums) ∙ sym c.is_enumerator.ensures ∙ c.if-not-is_enumerator.false in
    tag_known c.args.values.now c.args.order c.args.octets.now form s z e h
    ∙ ap (λ (p : Primitive). goes (next (with_tag z p s))) (sym c.carrier_of-carrier.ensures)
    ∙ ap goes (sym c.skip.ensures.is)
