use Rattle.std.proofs.Common.{◌∙◌, refl, map, option_map, ap, sym}
use Rattle.std.specs.List.{flat_map}
use Rattle.idl_scope.specs.Seen.{seen_files}
use Rattle.idl_rule_definitions.specs.Noted.{noted}
use Rattle.idl_rule_definitions.specs.Found.{seen_breach}
use Rattle.idl_value_rules.specs.SeenCounts.{one_too_many, parameters_at}
use Rattle.idl_value_rules.proofs.Passes.{one_noted, all_noted}
use Rattle.idl_value_rules.proofs.counts.parameters.Goals as goal

pub loop-node-init : goal.loop-node-init
loop-node-init c = (
  refl,
  (λ w files. ap
      (λ l. noted w (option_map seen_breach c.args.finder.now.first) (map one_too_many (flat_map (parameters_at c.args.nodes.now.lists.items c.args.limit) l))) c.deref-node-items.ensures.value),
)

pub loop-node-preserved : goal.loop-node-preserved
loop-node-preserved c = (
  c.parameters_at.ensures.files ∙ c.loop-node.invariant.0,
  (λ w files. one_noted (parameters_at c.args.nodes.now.lists.items c.args.limit) c.deref-node-items.result.now w c.loop-node.node-index c.node-item.result _ _ _ c.loop-node-test.true c.node-item.is
      (c.parameters_at.ensures.first w (files ∙ ap seen_files (sym c.loop-node.invariant.0)))
      (c.loop-node.invariant.1 w files)),
)

pub returns-clause-files : goal.returns-clause-files
returns-clause-files c = c.loop-node.invariant.0

pub returns-clause-first : goal.returns-clause-first
returns-clause-first c w files =
    all_noted (parameters_at c.args.nodes.now.lists.items c.args.limit) c.deref-node-items.result.now w c.loop-node.node-index _ _ c.loop-node-test.false (c.loop-node.invariant.1 w files)
