use Rattle.std.proofs.Common.{◌≡◌, ◌∙◌, ◌+◌, ◌∷◌, [], ℕ, List, Option, true, length, ap, sym, subst, arith, length-append}
use Rattle.nd_base.specs.declared.octets.Place.{Place}
use Rattle.idl_declared_types.specs.Kinds.{is_inside}
use Rattle.idl_rule_definitions.specs.TypeRules.{innermost}
use Rattle.idl_value_rules.specs.Cycles.{AreInnermostBelow}
use Rattle.idl_value_rules.proofs.CycleLoops.{innermost_more, all_innermost}
use Rattle.idl_value_rules.proofs.cycle_rule.innermost.Goals as goal

pub loop-number-init : goal.loop-number-init
loop-number-init c = (ap length c.new-places.ensures.items, (λ n below. absurd (omega (arith, below))))

pub loop-number-preserved : goal.loop-number-preserved
loop-number-preserved c =
    let ks = c.args.kinds.now in
    let number = c.loop-number.number in
    let places = c.loop-number.places.items in
    let place = c.innermost_of-place.result in
    let before = subst (λ (l : List (Option Place)). AreInnermostBelow ks number l) (sym c.as_slice.ensures.value) c.loop-number.invariant.1 in
    let inside : is_inside number c.kind.result ≡ true = c.kind.ensures.inside in (
      ap length c.in-Ok.ensures.items ∙ length-append places (place ∷ []) ∙ ap (λ n. n + 1) c.loop-number.invariant.0,
      subst (λ (l : List (Option Place)). AreInnermostBelow ks (number + 1) l) (sym c.in-Ok.ensures.items)
          (innermost_more ks number places place c.loop-number.invariant.0 c.loop-number.invariant.1
          (c.innermost_of-place.ensures ks number before inside ∙ ap innermost c.kind.ensures.seen)),
    )

pub returns : goal.returns
returns c =
    let past = c.loop-number-test.false in
    let within = c.loop-number.auto.number-end in
    let size = c.len-number-end.ensures.count in
    all_innermost c.args.kinds.now c.loop-number.number c.loop-number.places.items c.loop-number.invariant.0 (omega (arith, past, within, size)) c.loop-number.invariant.1
