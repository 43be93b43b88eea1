use Rattle.std.proofs.Common.{◌≡◌, ◌∙◌, ◌≤◌, length, option_map, Some, slice_get, refl, ap, sym, arith}
use Rattle.std.proofs.lemmas.Option.{slice_get_read}
use Rattle.idl_scope.specs.Seen.{seen_files, known_in}
use Rattle.idl_declared_types.specs.SeenTypes.{scene_seen, scoped_front}
use Rattle.idl_rule_definitions.specs.Noted.{noted}
use Rattle.idl_rule_definitions.specs.Found.{seen_breach}
use Rattle.idl_value_rules.specs.RestBreaches.{rest_breaches}
use Rattle.idl_declared_types.proofs.Fronts.{scoped_front_all}
use Rattle.idl_rules.proofs.RestNotes.{node_noted}
use Rattle.idl_rules.proofs.uses.each_node.Goals as goal

pub loop-at-preserved : goal.loop-at-preserved
loop-at-preserved c = (
  c.in_ok-nth_node.ensures.files ∙ c.loop-at.invariant.0,
  (λ w s files is types are.
      let n = c.args.nodes.now in
      let it = c.one-item.result in
      let there : slice_get n.items.items c.loop-at.at ≡ Some it =
      ap (λ l. slice_get l c.loop-at.at) (sym c.deref-one-items.ensures.value)
      ∙ slice_get_read c.deref-one-items.result.now (length c.deref-one-items.result.now) c.loop-at.at it refl c.loop-at-test.true c.one-item.is in
      node_noted w s n c.loop-at.at it (option_map seen_breach c.args.finder.now.first) _ _ there
      (c.loop-at.invariant.1 w s files is types are)
      (c.in_ok-nth_node.ensures.first w s (files ∙ ap seen_files (sym c.loop-at.invariant.0)) (ap (λ x. x.known) is) are types there)),
)

pub returns-clause-first : goal.returns-clause-first
returns-clause-first c w s files is types are =
    let n = c.args.nodes.now in
    let count = ap (λ l. length l) c.deref-one-items.ensures.value in
    let at_end : c.loop-at.at ≡ length n.items.items = omega (arith, count, c.loop-at-test.false, c.loop-at.auto.at-end) in
    c.loop-at.invariant.1 w s files is types are
    ∙ ap (λ l. noted w (option_map seen_breach c.args.finder.now.first) (rest_breaches s l))
    (ap (λ i. scoped_front s.known n i) at_end ∙ scoped_front_all s.known n ∙ ap (λ k. (scene_seen k n).nodes) (ap (λ x. x.known) is) ∙ ap (λ x. x.nodes) (sym is))
