use Rattle.std.proofs.Common.{◌≡◌, ◌∙◌, ◌+◌, ◌∷◌, [], ℕ, List, Option, Some, length, slice_get, refl, ap, sym, subst, arith, length-append}
use Rattle.std.proofs.lemmas.Option.{slice_get_read}
use Rattle.nd_base.specs.declared.octets.Place.{Place}
use Rattle.idl_rule_definitions.specs.Scene.{place_of}
use Rattle.idl_rule_definitions.specs.TypeRules.{held}
use Rattle.idl_value_rules.specs.Cycles.{AreInnermost, numbers_of}
use Rattle.idl_value_rules.proofs.CycleLoops.{AreRows, rows_more, all_rows}
use Rattle.idl_value_rules.proofs.cycle_rule.graph_of.Goals as goal

pub loop-body-init : goal.loop-body-init
loop-body-init c = (ap length c.new-graph.ensures, (λ s n is i b below there. absurd (omega (arith, below))))

pub loop-body-preserved : goal.loop-body-preserved
loop-body-preserved c =
    let t = c.args.types.now in
    let index = c.loop-body.body-index in
    let graph = c.loop-body.graph in
    let item = c.body-item.result in
    let bodies_read = c.deref-body-items.result.now in
    let numbers = c.as_slice-in-loop-body.result.now in
    let inner = subst (λ (l : List (Option Place)). AreInnermost t.kinds l) (sym c.as_slice.ensures.value) c.in_ok-places.ensures in (
      ap length c.in_ok-push.ensures.ok ∙ length-append graph (numbers ∷ []) ∙ ap (λ n. n + 1) c.loop-body.invariant.0,
      (λ s n is. subst (λ (g : List (List ℕ)). AreRows s t (index + 1) g) (sym c.in_ok-push.ensures.ok)
          (rows_more s t index graph numbers c.loop-body.invariant.0 (c.loop-body.invariant.1 s n is)
          (λ b there.
          let read : slice_get bodies_read index ≡ Some item = slice_get_read bodies_read (length bodies_read) index item refl c.loop-body-test.true c.body-item.is in
          let here : slice_get t.bodies.items index ≡ Some item = ap (λ l. slice_get l index) (sym c.deref-body-items.ensures.value) ∙ read in
          let place : item.place ≡ place_of b = (is.body index b item there here).place in
          c.as_slice-in-loop-body.ensures.value ∙ c.in_ok-numbers.ensures s n is inner ∙ ap (λ p. numbers_of t (held s p)) place))),
    )

pub returns : goal.returns
returns c s n is =
    let past = c.loop-body-test.false in
    let within = c.loop-body.auto.body-index-end in
    let size = ap (λ l. length l) c.deref-body-items.ensures.value in
    let all = is.body_count in
    all_rows s c.args.types.now c.loop-body.body-index c.loop-body.graph c.loop-body.invariant.0 (omega (arith, past, within, size, all)) (c.loop-body.invariant.1 s n is)
