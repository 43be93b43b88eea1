use Rattle.std.proofs.Common.{◌≡◌, ◌∙◌, ℕ, ◌+◌, ◌++◌, length, List, min, sym, ap, subst, arith}
use Rattle.std.specs.Prelude.{slice_index_or, slice_set}
use Rattle.std.proofs.lemmas.List.{take_at}
use Rattle.idl_value_rules.specs.Cycles.{first_number}
use Rattle.idl_value_rules.proofs.CycleKeys.{item_there}
use Rattle.idl_value_rules.proofs.CycleLower.{AreLowered, lowered_none, lowered_same, lowered_more, of_places_all}
use Rattle.idl_value_rules.proofs.cycle_rule.of_places.Goals as goal

pub loop-number-init : goal.loop-number-init
loop-number-init c =
    let values = c.args.values.now in
    subst (λ (l : List ℕ). AreLowered (first_number c.args.types.now) values l 0)
    (sym (c.in_ok-extend_from_slice.ensures.items ∙ ap (λ l. l ++ values) c.new-least.ensures.items))
    (lowered_none (first_number c.args.types.now) values)

pub loop-number-preserved-in_default : goal.loop-number-preserved-in_default
loop-number-preserved-in_default c =
    lowered_same (first_number c.args.types.now) c.args.values.now c.loop-number.least.items c.loop-number.number c.loop-number.invariant (sym c.first_of.ensures ∙ c.in_default.is)

pub loop-number-preserved : goal.loop-number-preserved
loop-number-preserved c =
    let first = first_number c.args.types.now in
    let values = c.args.values.now in
    let number = c.loop-number.number in
    let value = slice_index_or values number 0 in
    let changed = c.lower.ensures ∙ ap (λ l. slice_set l c.in-Some.first (min (slice_index_or l c.in-Some.first 0) value)) c.as_mut_slice.ensures.value in
    let whole : length c.lower.new.least ≡ c.loop-number.least.len = omega (arith, c.lower.auto.least, c.as_mut_slice.ensures.len) in
    subst (λ (l : List ℕ). AreLowered first values l (number + 1)) (sym (take_at c.lower.new.least _ _ whole ∙ changed))
    (lowered_more first values c.loop-number.least.items number c.in-Some.first value c.loop-number.invariant (sym c.first_of.ensures ∙ c.in-Some.is)
    (item_there values number 0 c.loop-number-test.true))

pub returns : goal.returns
returns c s n is size = of_places_all s n c.args.types.now is c.args.values.now c.loop-number.least.items c.loop-number.number size c.loop-number-test.false c.loop-number.invariant
