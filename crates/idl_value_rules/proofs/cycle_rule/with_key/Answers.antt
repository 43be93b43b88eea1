use Rattle.std.proofs.Common.{◌∙◌, ℕ, ◌+◌, ◌∷◌, [], List, length, ap, sym, subst, arith, length-append}
use Rattle.idl_declared_types.proofs.PlacesFilled.{Each}
use Rattle.idl_value_rules.proofs.CycleKeys.{NumberWith, with_own, with_past, with_more, with_all}
use Rattle.idl_value_rules.proofs.cycle_rule.with_key.Goals.{then-one-key, else-one-key}
use Rattle.idl_value_rules.proofs.cycle_rule.with_key.Goals as goal

pub loop-number-init : goal.loop-number-init
loop-number-init c =
    (ap length c.new-numbers.ensures.items, subst (λ (l : List ℕ). Each (NumberWith c.args.keys.now c.args.key) 0 l) (sym c.new-numbers.ensures.items) (λ i below. absurd (omega (arith, below))))

pub loop-number-preserved : goal.loop-number-preserved
loop-number-preserved c =
    let keys = c.args.keys.now in
    let key = c.args.key in
    let number = c.loop-number.number in
    let size = c.loop-number.invariant.0 in
    let item : NumberWith keys key number c.if-one-key.number = elim c.if-one-key.branch [
      | then-one-key w ↦ with_own keys key number c.if-one-key.number w.if-one-key.true w.number-is
      | else-one-key w ↦ with_past keys key number c.if-one-key.number w.if-one-key.false w.number-is
    ] in (
      ap length c.in-Ok.ensures.items ∙ length-append c.loop-number.numbers.items (c.if-one-key.number ∷ []) ∙ ap (λ n. n + 1) size,
      subst (λ (l : List ℕ). Each (NumberWith keys key) 0 l) (sym c.in-Ok.ensures.items)
          (with_more keys key number c.loop-number.numbers.items c.if-one-key.number size c.loop-number.invariant.1 item),
    )

pub returns : goal.returns
returns c =
    let e = c.loop-number-test.false in
    let f = c.loop-number.auto.number-end in
    let size = c.loop-number.invariant.0 in
    with_all c.args.keys.now c.args.key c.loop-number.numbers.items (omega (arith, e, f, size)) c.loop-number.invariant.1
