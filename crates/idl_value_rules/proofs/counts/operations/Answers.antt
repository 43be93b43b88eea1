use Rattle.std.proofs.Common.{◌∙◌, ap, sym}
use Rattle.idl_scope.specs.Seen.{seen_files}
use Rattle.idl_value_rules.specs.SeenCounts.{operations_at}
use Rattle.idl_value_rules.proofs.Passes.{one_counted, all_counted}
use Rattle.idl_value_rules.proofs.counts.operations.Goals as goal

pub loop-node-preserved : goal.loop-node-preserved
loop-node-preserved c = (
  c.operation-due.ensures.files ∙ c.loop-node.invariant.0,
  (λ w files. one_counted operations_at c.args.nodes.now w c.loop-node.due _ c.loop-node.node-index c.node-item.result _ _ _ c.loop-node-test.true c.node-item.is c.operation-due.ensures.due
      (c.operation-due.ensures.first w (files ∙ ap seen_files (sym c.loop-node.invariant.0)))
      (c.loop-node.invariant.1 w files)),
)

pub returns-clause-first : goal.returns-clause-first
returns-clause-first c w files = all_counted operations_at c.args.nodes.now w c.loop-node.due c.loop-node.node-index _ _ c.loop-node-test.false (c.loop-node.invariant.1 w files)
