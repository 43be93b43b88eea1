use Rattle.std.proofs.Common.{◌∷◌, ◌+◌, length, true, refl}
use Rattle.nd_grammar.specs.Entry.{Actual, Offset, Text}
use Rattle.ndr_trace_value.specs.declared.progress.Halt.TheVariants as halts
use Rattle.ndr_trace_value.specs.Tracing.{entry_at}
use Rattle.ndr_trace_value.proofs.Passing.{err_as}
use Rattle.ndr_trace_value.proofs.nodes.text.Goals as goal

pub returns-in_err-gap-clause-ends : goal.returns-in_err-gap-clause-ends
returns-in_err-gap-clause-ends c k u n sp max os label rest t e =
    let s = c.args.spot.now in
    let last = entry_at s n (Text os) ∷ rest in
    let counts = entry_at s n (Actual true 0 max (length os + 1)) ∷ last in
    c.in_err-gap.ensures.ends k u n sp (entry_at s n (Offset true 0) ∷ counts) t
    (err_as c.from_residual.result c.in_err-gap.field-0.0 halts.Here c.from_residual.ensures.1 e)

pub returns-in_err-item-clause-ends : goal.returns-in_err-item-clause-ends
returns-in_err-item-clause-ends c k u n sp max os label rest t e =
    let s = c.args.spot.now in
    let last = entry_at s n (Text os) ∷ rest in
    let counts = entry_at s n (Actual true 0 max (length os + 1)) ∷ last in
    let first = c.in_ok-gap.ensures.goes k u n (entry_at s n (Offset true 0) ∷ counts) t in
    c.in_err-item.ensures.ends k u n sp (Offset true 0) tt counts first
    (err_as c.from_residual-in_err-item.result c.in_err-item.field-0.0 halts.Here c.from_residual-in_err-item.ensures.1 e)

pub returns-in_err-item-2-clause-ends : goal.returns-in_err-item-2-clause-ends
returns-in_err-item-2-clause-ends c k u n sp max os label rest t e =
    let s = c.args.spot.now in
    let last = entry_at s n (Text os) ∷ rest in
    let counts = entry_at s n (Actual true 0 max (length os + 1)) ∷ last in
    let first = c.in_ok-gap.ensures.goes k u n (entry_at s n (Offset true 0) ∷ counts) t in
    let second = c.in_ok-item.ensures.goes k u n sp (Offset true 0) tt tt tt counts first in
    c.in_err-item-2.ensures.ends k u n sp (Actual true 0 max (length os + 1)) tt last second.0
    (err_as c.from_residual-in_err-item-2.result c.in_err-item-2.field-0.0 halts.Here c.from_residual-in_err-item-2.ensures.1 e)

pub returns-in_err-item-3-clause-ends : goal.returns-in_err-item-3-clause-ends
returns-in_err-item-3-clause-ends c k u n sp max os label rest t e =
    let s = c.args.spot.now in
    let last = entry_at s n (Text os) ∷ rest in
    let counts = entry_at s n (Actual true 0 max (length os + 1)) ∷ last in
    let first = c.in_ok-gap.ensures.goes k u n (entry_at s n (Offset true 0) ∷ counts) t in
    let second = c.in_ok-item.ensures.goes k u n sp (Offset true 0) tt tt tt counts first in
    let third = c.in_ok-item-2.ensures.goes k u n sp (Actual true 0 max (length os + 1)) tt tt tt last second.0 in
    c.in_err-item-3.ensures.ends k u n sp (Text os) tt rest third.0
    (err_as c.from_residual-in_err-item-3.result c.in_err-item-3.field-0.0 halts.Here c.from_residual-in_err-item-3.ensures.1 e)

pub returns-clause-goes : goal.returns-clause-goes
returns-clause-goes c k u n sp max os label rest t =
    let s = c.args.spot.now in
    let last = entry_at s n (Text os) ∷ rest in
    let counts = entry_at s n (Actual true 0 max (length os + 1)) ∷ last in
    let first = c.in_ok-gap.ensures.goes k u n (entry_at s n (Offset true 0) ∷ counts) t in
    let second = c.in_ok-item.ensures.goes k u n sp (Offset true 0) tt tt tt counts first in
    let third = c.in_ok-item-2.ensures.goes k u n sp (Actual true 0 max (length os + 1)) tt tt tt last second.0 in
    let fourth = c.in_ok-item-3.ensures.goes k u n sp (Text os) tt (max, label) tt rest third.0 in
    (refl, fourth.0)
