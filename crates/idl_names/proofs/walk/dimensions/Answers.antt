use Rattle.std.proofs.Common.{◌∙◌, sym, ap, arith, map, option_map}
use Rattle.std.specs.List.{flat_map}
use Rattle.idl_grammar.specs.Seen as seen
use Rattle.idl_scope.specs.Known.{walked}
use Rattle.idl_scope.specs.Steps as steps
use Rattle.idl_names.proofs.Walked.{next_item, no_item}
use Rattle.idl_names.proofs.walk.dimensions.Goals as goal

pub loop-one-preserved : goal.loop-one-preserved
loop-one-preserved c =
    next_item (option_map seen.seen_bound) steps.bound_steps c.deref-one-items.result.now c.args.file c.args.names.now c.args.names.now c.loop-one.one-index c.one-item.result
    (omega arith) c.one-item.is c.in_ok-bound.ensures
    ∙ c.loop-one.invariant

pub returns : goal.returns
returns c =
    ap (λ xs. walked c.args.file c.args.names.now (flat_map steps.bound_steps (map (option_map seen.seen_bound) xs))) (sym c.deref-one-items.ensures.value)
    ∙ (sym c.loop-one.invariant ∙ no_item (option_map seen.seen_bound) steps.bound_steps c.deref-one-items.result.now c.args.file c.args.names.now c.loop-one.one-index (omega arith))
