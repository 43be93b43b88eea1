use Rattle.std.proofs.Common.{◌∙◌, sym, ap, arith, map}
use Rattle.std.specs.List.{flat_map}
use Rattle.idl_grammar.specs.Seen as seen
use Rattle.idl_scope.specs.Known.{walked}
use Rattle.idl_scope.specs.Steps as steps
use Rattle.idl_names.proofs.Walked.{next_item, no_item, item_fault, told_fault}
use Rattle.idl_names.proofs.declarations.typedefs.Goals as goal

pub loop-declarator-preserved : goal.loop-declarator-preserved
loop-declarator-preserved c =
    next_item seen.seen_declarator steps.typedef_steps c.deref-declarator-items.result.now c.args.file c.loop-declarator.names c.typedef.new.names c.loop-declarator.declarator-index
    c.declarator-item.result (omega arith) c.declarator-item.is c.in_ok-typedef.ensures
    ∙ c.loop-declarator.invariant

pub returns-in_err-typedef : goal.returns-in_err-typedef
returns-in_err-typedef c =
    item_fault seen.seen_declarator steps.typedef_steps c.deref-declarator-items.result.now c.args.file c.loop-declarator.names c.typedef.new.names c.loop-declarator.declarator-index
    c.declarator-item.result c.from_residual.result c.in_err-typedef.field-0.0
    (walked c.args.file c.args.names.now (flat_map steps.typedef_steps (map seen.seen_declarator c.args.declarators.now.items))) (omega arith) c.declarator-item.is
    (c.loop-declarator.invariant ∙ ap (λ xs. walked c.args.file c.args.names.now (flat_map steps.typedef_steps (map seen.seen_declarator xs))) c.deref-declarator-items.ensures.value)
    (told_fault c.from_residual.result c.in_err-typedef.field-0.0 c.from_residual.ensures.1) c.in_err-typedef.ensures

pub returns : goal.returns
returns c =
    ap (λ xs. walked c.args.file c.args.names.now (flat_map steps.typedef_steps (map seen.seen_declarator xs))) (sym c.deref-declarator-items.ensures.value)
    ∙ (sym c.loop-declarator.invariant
    ∙ no_item seen.seen_declarator steps.typedef_steps c.deref-declarator-items.result.now c.args.file c.loop-declarator.names c.loop-declarator.declarator-index (omega arith))
