use Rattle.std.proofs.Common.{◌∙◌, arith}
use Rattle.std.proofs.lemmas.Bool.{eq-eqb, ne_eqb}
use Rattle.ndr_decoder_value.proofs.Searches.{list_next, carrier_found, carrier_none}
use Rattle.ndr_decoder_value.proofs.enumerators.carrier_of.Goals as goal

pub returns-then-list-of : goal.returns-then-list-of
returns-then-list-of c =
    carrier_found c.args.values.now c.args.of.0 c.loop-at.at c.in-Some.list.now c.loop-at.invariant c.in-Some.ensures.some (eq-eqb c.in-Some.list.now.of.0 c.args.of.0 c.if-list-of.true)

pub loop-at-preserved : goal.loop-at-preserved
loop-at-preserved c = c.loop-at.invariant ∙ list_next c.args.values.now c.args.of.0 c.loop-at.at c.in-Some.list.now c.in-Some.ensures.some
    (ne_eqb c.in-Some.list.now.of.0 c.args.of.0 c.if-list-of.false)

pub returns : goal.returns
returns c = carrier_none c.args.values.now c.args.of.0 c.loop-at.at _ c.loop-at.invariant (omega arith) c.prim_of.ensures
