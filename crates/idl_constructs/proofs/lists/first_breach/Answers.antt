use Rattle.std.proofs.Common.{◌≡◌, ◌∙◌, None, option_map, refl, ap, ap₂, sym}
use Rattle.std.specs.List.{flat_map}
use Rattle.idl_scope.specs.Seen.{seen_files}
use Rattle.idl_constructs.specs.SeenNodes.{seen_node}
use Rattle.idl_rule_definitions.specs.Noted.{noted}
use Rattle.idl_rule_definitions.specs.Found.{seen_breach}
use Rattle.idl_constructs.specs.ListBreaches.{list_breaches_at, list_breaches}
use Rattle.idl_constructs.proofs.Runs.{one_noted, none_left}
use Rattle.idl_constructs.proofs.lists.first_breach.Goals as goal

pub loop-one-init : goal.loop-one-init
loop-one-init c = (
  c.new-finder.ensures.files,
  (λ w files. ap₂ (λ o l. noted w (option_map seen_breach o) (list_breaches (flat_map (seen_node c.args.nodes.now.lists.items) l))) c.new-finder.ensures.none c.deref-one-items.ensures.value),
)

pub loop-one-preserved : goal.loop-one-preserved
loop-one-preserved c = (
  c.in_ok-node.ensures.files ∙ c.loop-one.invariant.0,
  (λ w files. one_noted (seen_node c.args.nodes.now.lists.items) list_breaches_at c.deref-one-items.result.now w c.loop-one.one-index c.one-item.result _ _ _ c.loop-one-test.true c.one-item.is
      (c.in_ok-node.ensures.first w c.args.nodes.now (files ∙ ap seen_files (sym c.loop-one.invariant.0)))
      (c.loop-one.invariant.1 w files)),
)

pub returns : goal.returns
returns c w files =
    ap (option_map seen_breach) c.first.ensures
    ∙ none_left (seen_node c.args.nodes.now.lists.items) list_breaches_at c.deref-one-items.result.now w c.loop-one.one-index _ _ c.loop-one-test.false (c.loop-one.invariant.1 w files)
