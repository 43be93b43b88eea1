use Rattle.std.proofs.Common.{◌≡◌, ◌∙◌, ℕ, ◌<◌, ◌+◌, ◌++◌, ◌∷◌, [], List, length, refl, ap, sym, subst, arith, length-append}
use Rattle.idl_declared_types.specs.Kinds.{type_by, seen_types}
use Rattle.idl_rule_definitions.specs.Scene.{in_place}
use Rattle.idl_declared_types.specs.InPlace.{AreHeld, IsPlaces}
use Rattle.idl_declared_types.proofs.PlacesFilled.{Each, HeldBy, place_more, void_last}
use Rattle.idl_value_rules.proofs.in_place.places.Goals as goal

pub loop-number-init : goal.loop-number-init
loop-number-init c = (
  ap length c.new-graph.ensures,
  (λ s n is size. subst (λ (g : List (List ℕ)). Each (HeldBy s c.args.types.now.kinds c.args.count) [] g) (sym c.new-graph.ensures) (λ i below. absurd (omega (arith, below)))),
)

pub loop-number-preserved : goal.loop-number-preserved
loop-number-preserved c =
    let ks = c.args.types.now.kinds in (
      ap length c.in_ok-push.ensures.ok ∙ length-append c.loop-number.graph (c.as_slice.result.now ∷ []) ∙ ap (λ n. n + 1) c.loop-number.invariant.0,
      (λ s n is size. subst (λ (g : List (List ℕ)). Each (HeldBy s ks c.args.count) [] g) (sym c.in_ok-push.ensures.ok)
          (place_more s ks c.args.count c.loop-number.number c.loop-number.graph c.as_slice.result.now (type_by (seen_types ks) c.kind.result) c.loop-number.invariant.0
          (c.loop-number.invariant.1 s n is size)
          (subst (λ (l : List ℕ). AreHeld ks c.args.count l (in_place s (type_by (seen_types ks) c.kind.result))) (sym c.as_slice.ensures.value) (c.in_ok-held.ensures s n is size))
          c.kind.ensures.seen)),
    )

pub returns : goal.returns
returns c s n is size =
    let ks = c.args.types.now.kinds in
    let all = c.loop-number.invariant.0 in
    let past = c.loop-number-test.false in
    let within = c.loop-number.auto.number-end in
    subst (λ (g : List (List ℕ)). IsPlaces s ks c.args.count g) (sym c.in_ok-push-2.ensures.ok)
    (void_last s ks c.args.count c.loop-number.graph size (omega (arith, all, past, within)) (c.loop-number.invariant.1 s n is size))
