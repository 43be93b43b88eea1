use Rattle.std.proofs.Common.{◌∙◌, sym, ap, arith, map}
use Rattle.std.specs.List.{flat_map}
use Rattle.idl_grammar.specs.Seen as seen
use Rattle.idl_scope.specs.Known.{walked}
use Rattle.idl_scope.specs.Steps as steps
use Rattle.idl_names.proofs.Walked.{next_item, no_item, item_fault, told_fault}
use Rattle.idl_names.proofs.walk.labels.Goals as goal

pub loop-one-preserved : goal.loop-one-preserved
loop-one-preserved c =
    next_item seen.seen_label steps.label_steps c.deref-one-items.result.now c.args.file c.args.names.now c.args.names.now c.loop-one.one-index c.one-item.result
    (omega arith) c.one-item.is c.in_ok-label.ensures
    ∙ c.loop-one.invariant

pub returns-in_err-label : goal.returns-in_err-label
returns-in_err-label c =
    item_fault seen.seen_label steps.label_steps c.deref-one-items.result.now c.args.file c.args.names.now c.args.names.now c.loop-one.one-index c.one-item.result c.from_residual.result
    c.in_err-label.field-0.0
    (walked c.args.file c.args.names.now (flat_map steps.label_steps (map seen.seen_label c.args.list.now.items))) (omega arith) c.one-item.is
    (c.loop-one.invariant ∙ ap (λ xs. walked c.args.file c.args.names.now (flat_map steps.label_steps (map seen.seen_label xs))) c.deref-one-items.ensures.value)
    (told_fault c.from_residual.result c.in_err-label.field-0.0 c.from_residual.ensures.1) c.in_err-label.ensures

pub returns : goal.returns
returns c =
    ap (λ xs. walked c.args.file c.args.names.now (flat_map steps.label_steps (map seen.seen_label xs))) (sym c.deref-one-items.ensures.value)
    ∙ (sym c.loop-one.invariant ∙ no_item seen.seen_label steps.label_steps c.deref-one-items.result.now c.args.file c.args.names.now c.loop-one.one-index (omega arith))
