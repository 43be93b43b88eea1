use Rattle.std.proofs.Common.{◌∙◌, sym, ap, arith, map}
use Rattle.std.specs.List.{flat_map}
use Rattle.idl_grammar.specs.Seen as seen
use Rattle.idl_scope.specs.Known.{walked}
use Rattle.idl_scope.specs.Steps as steps
use Rattle.idl_names.proofs.Walked.{next_item, no_item}
use Rattle.idl_names.proofs.walk.values.Goals as goal

pub loop-expression-preserved : goal.loop-expression-preserved
loop-expression-preserved c =
    next_item seen.seen_expr steps.value_steps c.deref-expression-items.result.now c.args.file c.args.names.now c.args.names.now c.loop-expression.expression-index c.expression-item.result
    (omega arith) c.expression-item.is c.in_ok-check_value.ensures
    ∙ c.loop-expression.invariant

pub returns : goal.returns
returns c =
    ap (λ xs. walked c.args.file c.args.names.now (flat_map steps.value_steps (map seen.seen_expr xs))) (sym c.deref-expression-items.ensures.value)
    ∙ (sym c.loop-expression.invariant ∙ no_item seen.seen_expr steps.value_steps c.deref-expression-items.result.now c.args.file c.args.names.now c.loop-expression.expression-index (omega arith))
