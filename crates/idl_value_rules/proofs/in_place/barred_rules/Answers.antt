use Rattle.std.proofs.Common.{◌≡◌, ◌∙◌, ◌<◌, ◌+◌, ◌++◌, ◌∷◌, [], List, length, refl, ap, sym, subst, arith, length-append}
use Rattle.idl_cycles.specs.declared.graph.rounds.Rule.{Rule}
use Rattle.idl_cycles.specs.declared.graph.rounds.Rule.TheVariants.{Never}
use Rattle.idl_declared_types.specs.Kinds.{type_by, seen_types}
use Rattle.idl_declared_types.specs.InPlace.{barred_rule, AreRules}
use Rattle.idl_declared_types.proofs.PlacesFilled.{Each, RuleOf, rule_more, void_rule}
use Rattle.idl_value_rules.proofs.in_place.barred_rules.Goals as goal

pub loop-number-init : goal.loop-number-init
loop-number-init c = (
  ap length c.new-rules.ensures.items,
  subst (λ (g : List Rule). Each (RuleOf barred_rule c.args.kinds.now) Never g) (sym c.new-rules.ensures.items) (λ i below. absurd (omega (arith, below))),
)

pub loop-number-preserved : goal.loop-number-preserved
loop-number-preserved c =
    let ks = c.args.kinds.now in (
      ap length c.in-Ok.ensures.items ∙ length-append c.loop-number.rules.items (c.barred.result ∷ []) ∙ ap (λ n. n + 1) c.loop-number.invariant.0,
      subst (λ (g : List Rule). Each (RuleOf barred_rule ks) Never g) (sym c.in-Ok.ensures.items)
          (rule_more barred_rule ks c.loop-number.number c.loop-number.rules.items c.barred.result c.loop-number.invariant.0 c.loop-number.invariant.1
          (c.barred.ensures (seen_types ks) ∙ ap barred_rule c.kind.ensures.seen)),
    )

pub returns : goal.returns
returns c size =
    let all = c.loop-number.invariant.0 in
    let past = c.loop-number-test.false in
    let within = c.loop-number.auto.number-end in
    subst (λ (g : List Rule). AreRules barred_rule c.args.kinds.now c.args.count g) (sym c.in-Ok-push.ensures.items)
    (void_rule barred_rule c.args.kinds.now c.args.count c.loop-number.rules.items _ size (omega (arith, all, past, within)) c.loop-number.invariant.1 refl)
