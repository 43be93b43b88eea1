use mir.Val.{SFits}
use mir.Syntax.{w128}
use Rattle.std.proofs.Common.{rules, ℤ, ap, ◌∙◌, arith}
use Rattle.std.specs.List.{list_any}
use Rattle.std.specs.Ordering.{int_eq}
use Rattle.std.proofs.lemmas.Int.{to_z-of_z}
use Rattle.std.proofs.lemmas.Bool.{eq-eqb, ne_eqb}
use Rattle.ndr_decoder_value.proofs.Searches.{list_next, is_one_found, is_one_none}
use Rattle.ndr_decoder_value.proofs.enumerators.is_enumerator.Goals as goal

pub returns-then-list-of : goal.returns-then-list-of
returns-then-list-of c =
    let fits : SFits w128 c.args.value = search rules in
    is_one_found c.args.values.now c.args.of.0 c.loop-at.at c.in-Some.list.now c.args.value _ c.loop-at.invariant c.in-Some.ensures.some (eq-eqb c.in-Some.list.now.of.0 c.args.of.0 c.if-list-of.true)
    (c.contains.ensures ∙ ap (λ (z : ℤ). list_any (int_eq z) c.in-Some.list.now.values) (to_z-of_z w128 c.args.value fits))

pub loop-at-preserved : goal.loop-at-preserved
loop-at-preserved c = c.loop-at.invariant ∙ list_next c.args.values.now c.args.of.0 c.loop-at.at c.in-Some.list.now c.in-Some.ensures.some
    (ne_eqb c.in-Some.list.now.of.0 c.args.of.0 c.if-list-of.false)

pub returns : goal.returns
returns c = is_one_none c.args.values.now c.args.of.0 c.loop-at.at c.args.value c.loop-at.invariant (omega arith)
