use Rattle.std.proofs.Common.{◌∙◌, ◌∷◌, [], None, Some, ap, sym}
use Rattle.idl_value_rules.specs.Cycles.{option_list, numbers_of}
use Rattle.idl_value_rules.proofs.CycleLoops.{numbers_more, numbers_same, one_number}
use Rattle.idl_value_rules.proofs.cycle_rule.row.Goals as goal

pub loop-part-preserved-in_default-body_of : goal.loop-part-preserved-in_default-body_of
loop-part-preserved-in_default-body_of c ks inner =
    let t = c.args.types.now in
    numbers_same t ks c.args.places.now c.args.parts.now c.loop-part.numbers.items c.loop-part.part-index 0 inner c.loop-part-test.true (c.loop-part.invariant ks inner)
    (ap (λ o. numbers_of t (option_list o)) (sym c.place_at.ensures ∙ c.in-Some.is)
    ∙ one_number t c.in-Some.place None (sym c.body_of.ensures ∙ c.in_default-body_of.is))

pub loop-part-preserved : goal.loop-part-preserved
loop-part-preserved c ks inner =
    let t = c.args.types.now in
    let number = c.in-Some-body_of.number in
    c.in-Ok.ensures.items
    ∙ numbers_more t ks c.args.places.now c.args.parts.now c.loop-part.numbers.items (number ∷ []) c.loop-part.part-index 0 inner c.loop-part-test.true
    (c.loop-part.invariant ks inner)
    (ap (λ o. numbers_of t (option_list o)) (sym c.place_at.ensures ∙ c.in-Some.is)
    ∙ one_number t c.in-Some.place (Some number) (sym c.body_of.ensures ∙ c.in-Some-body_of.is))
