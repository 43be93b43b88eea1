use Rattle.std.proofs.Common.{◌∙◌, sym, ap, arith, map}
use Rattle.std.specs.List.{flat_map}
use Rattle.idl_grammar.specs.Seen as seen
use Rattle.idl_scope.specs.Known.{walked}
use Rattle.idl_scope.specs.Steps as steps
use Rattle.idl_names.proofs.Walked.{next_item, no_item, item_fault, told_fault}
use Rattle.idl_names.proofs.walk.attributes.Goals as goal

pub loop-one-preserved : goal.loop-one-preserved
loop-one-preserved c =
    next_item seen.seen_attribute (λ x. steps.kind_steps x.kind) c.deref-one-items.result.now c.args.file c.args.names.now c.args.names.now c.loop-one.one-index c.one-item.result
    (omega arith) c.one-item.is c.in_ok-attribute.ensures
    ∙ c.loop-one.invariant

pub returns-in_err-attribute : goal.returns-in_err-attribute
returns-in_err-attribute c =
    item_fault seen.seen_attribute
    (λ x. steps.kind_steps x.kind) c.deref-one-items.result.now c.args.file c.args.names.now c.args.names.now c.loop-one.one-index c.one-item.result c.from_residual.result
    c.in_err-attribute.field-0.0
    (walked c.args.file c.args.names.now (flat_map (λ x. steps.kind_steps x.kind) (map seen.seen_attribute c.args.list.now.list.items))) (omega arith) c.one-item.is
    (c.loop-one.invariant ∙ ap (λ xs. walked c.args.file c.args.names.now (flat_map (λ x. steps.kind_steps x.kind) (map seen.seen_attribute xs))) c.deref-one-items.ensures.value)
    (told_fault c.from_residual.result c.in_err-attribute.field-0.0 c.from_residual.ensures.1) c.in_err-attribute.ensures

pub returns : goal.returns
returns c =
    ap (λ xs. walked c.args.file c.args.names.now (flat_map (λ x. steps.kind_steps x.kind) (map seen.seen_attribute xs))) (sym c.deref-one-items.ensures.value)
    ∙ (sym c.loop-one.invariant ∙ no_item seen.seen_attribute (λ x. steps.kind_steps x.kind) c.deref-one-items.result.now c.args.file c.args.names.now c.loop-one.one-index (omega arith))
