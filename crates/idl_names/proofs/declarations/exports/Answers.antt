use Rattle.std.proofs.Common.{◌∙◌, sym, ap, arith, map}
use Rattle.std.specs.List.{flat_map}
use Rattle.idl_grammar.specs.Seen as seen
use Rattle.idl_scope.specs.Known.{walked}
use Rattle.idl_scope.specs.Steps as steps
use Rattle.idl_names.proofs.Walked.{next_item, no_item, item_fault, told_fault}
use Rattle.idl_names.proofs.declarations.exports.Goals as goal

pub loop-one-preserved : goal.loop-one-preserved
loop-one-preserved c =
    next_item seen.seen_export (steps.export_steps c.args.is_main) c.deref-one-items.result.now c.args.file c.loop-one.names c.export.new.names c.loop-one.one-index c.one-item.result
    (omega arith) c.one-item.is c.in_ok-export.ensures
    ∙ c.loop-one.invariant

pub returns-in_err-export : goal.returns-in_err-export
returns-in_err-export c =
    item_fault seen.seen_export
    (steps.export_steps c.args.is_main) c.deref-one-items.result.now c.args.file c.loop-one.names c.export.new.names c.loop-one.one-index c.one-item.result c.from_residual.result
    c.in_err-export.field-0.0
    (walked c.args.file c.args.names.now (flat_map (steps.export_steps c.args.is_main) (map seen.seen_export c.args.list.now.items))) (omega arith) c.one-item.is
    (c.loop-one.invariant ∙ ap (λ xs. walked c.args.file c.args.names.now (flat_map (steps.export_steps c.args.is_main) (map seen.seen_export xs))) c.deref-one-items.ensures.value)
    (told_fault c.from_residual.result c.in_err-export.field-0.0 c.from_residual.ensures.1) c.in_err-export.ensures

pub returns : goal.returns
returns c =
    ap (λ xs. walked c.args.file c.args.names.now (flat_map (steps.export_steps c.args.is_main) (map seen.seen_export xs))) (sym c.deref-one-items.ensures.value)
    ∙ (sym c.loop-one.invariant ∙ no_item seen.seen_export (steps.export_steps c.args.is_main) c.deref-one-items.result.now c.args.file c.loop-one.names c.loop-one.one-index (omega arith))
