use Rattle.std.proofs.Common.{◌∷◌, refl}
use Rattle.nd_grammar.specs.Entry.{Context}
use Rattle.ndr_trace_value.specs.declared.progress.Halt.TheVariants as halts
use Rattle.ndr_trace_value.specs.Tracing.{entry_at}
use Rattle.ndr_trace_value.proofs.Passing.{err_as}
use Rattle.ndr_trace_value.proofs.nodes.context.Goals as goal

pub returns-in_err-gap-clause-ends : goal.returns-in_err-gap-clause-ends
returns-in_err-gap-clause-ends c k u n sp a id label rest t e =
    c.in_err-gap.ensures.ends k u n sp (entry_at c.args.spot.now n (Context a id) ∷ rest) t
    (err_as c.from_residual.result c.in_err-gap.field-0.0 halts.Here c.from_residual.ensures.1 e)

pub returns-in_err-item-clause-ends : goal.returns-in_err-item-clause-ends
returns-in_err-item-clause-ends c k u n sp a id label rest t e =
    c.in_err-item.ensures.ends k u n sp (Context a id) tt rest (c.in_ok-gap.ensures.goes k u n (entry_at c.args.spot.now n (Context a id) ∷ rest) t)
    (err_as c.from_residual-in_err-item.result c.in_err-item.field-0.0 halts.Here c.from_residual-in_err-item.ensures.1 e)

pub returns-clause-goes : goal.returns-clause-goes
returns-clause-goes c k u n sp a id label rest t =
    let first = c.in_ok-gap.ensures.goes k u n (entry_at c.args.spot.now n (Context a id) ∷ rest) t in
    (refl, (c.in_ok-item.ensures.goes k u n sp (Context a id) tt label tt rest first).0)
