use Rattle.std.proofs.Common.{◌∷◌, false, ap₂}
use Rattle.nd_value.specs.Tree as tree
use Rattle.nd_grammar.specs.Entry.{Actual, Offset}
use Rattle.ndr_trace_value.specs.declared.progress.Halt.TheVariants as halts
use Rattle.ndr_trace_value.specs.Tracing.{entry_at}
use Rattle.ndr_trace_value.proofs.Passing.{err_as}
use Rattle.ndr_trace_value.proofs.nodes.array.Goals as goal

pub returns-in_err-gap-clause-ends : goal.returns-in_err-gap-clause-ends
returns-in_err-gap-clause-ends c v k u n sp off lim act rest t e =
    let s = c.args.spot.now in
    c.in_err-gap.ensures.ends k u n sp (entry_at s n (Offset false off) ∷ entry_at s n (Actual false off lim act) ∷ rest) t
    (err_as c.from_residual.result c.in_err-gap.field-0.0 halts.Here c.from_residual.ensures.1 e)

pub returns-in_err-offset-clause-ends : goal.returns-in_err-offset-clause-ends
returns-in_err-offset-clause-ends c v k u n sp off lim act rest t e =
    let s = c.args.spot.now in
    let first = c.in_ok-gap.ensures.goes k u n (entry_at s n (Offset false off) ∷ entry_at s n (Actual false off lim act) ∷ rest) t in
    c.in_err-offset.ensures.ends k u n sp (Offset false off) tt (entry_at s n (Actual false off lim act) ∷ rest) first
    (err_as c.from_residual-in_err-offset.result c.in_err-offset.field-0.0 halts.Here c.from_residual-in_err-offset.ensures.1 e)

pub returns-in_err-count-clause-ends : goal.returns-in_err-count-clause-ends
returns-in_err-count-clause-ends c v k u n sp off lim act rest t e =
    let s = c.args.spot.now in
    let first = c.in_ok-gap.ensures.goes k u n (entry_at s n (Offset false off) ∷ entry_at s n (Actual false off lim act) ∷ rest) t in
    let second = c.in_ok-offset.ensures.goes k u n sp (Offset false off) tt tt (entry_at s n (Actual false off lim act) ∷ rest) first in
    c.in_err-count.ensures.ends k u n sp (Actual false off lim act) tt rest second.0
    (err_as c.from_residual-in_err-count.result c.in_err-count.field-0.0 halts.Here c.from_residual-in_err-count.ensures.1 e)

pub returns-clause-goes : goal.returns-clause-goes
returns-clause-goes c v k u n sp off lim act rest t =
    let s = c.args.spot.now in
    let first = c.in_ok-gap.ensures.goes k u n (entry_at s n (Offset false off) ∷ entry_at s n (Actual false off lim act) ∷ rest) t in
    let second = c.in_ok-offset.ensures.goes k u n sp (Offset false off) tt tt (entry_at s n (Actual false off lim act) ∷ rest) first in
    let third = c.in_ok-count.ensures.goes k u n sp (Actual false off lim act) tt tt rest second.0 in
    (ap₂ (λ x y. (tree.Arr c.args.max x, y)) second.1 third.1, third.0)
