use Rattle.std.proofs.Common.{◌∷◌, ◌∙◌, arith, refl, ap, subst, sym}
use Rattle.nd_value.specs.Tree as tree
use Rattle.nd_grammar.specs.Entry.{Number}
use Rattle.ndr_trace_value.specs.declared.progress.Halt.TheVariants as halts
use Rattle.ndr_trace_value.specs.Naming.{only_spot}
use Rattle.ndr_trace_value.specs.Tracing.{IsSpot, entry_at}
use Rattle.ndr_trace_value.proofs.OwnItems.{cell_named}
use Rattle.ndr_trace_value.proofs.Passing.{err_as, memory_only}
use Rattle.ndr_trace_value.proofs.nodes.pointer.Goals as goal

pub returns-in_err-gap-clause-ends : goal.returns-in_err-gap-clause-ends
returns-in_err-gap-clause-ends c k u n sp x rest t e =
    c.in_err-gap.ensures.ends k u n sp (entry_at c.args.spot.now n (Number c.args.class c.args.to.0 x) ∷ rest) t
    (err_as c.from_residual.result c.in_err-gap.field-0.0 halts.Here c.from_residual.ensures.1 e)

pub returns-in_err-number-clause-ends : goal.returns-in_err-number-clause-ends
returns-in_err-number-clause-ends c k u n sp x rest t e =
    c.in_err-number.ensures.ends k u n sp (Number c.args.class c.args.to.0 x) tt rest
    (c.in_ok-gap.ensures.goes k u n (entry_at c.args.spot.now n (Number c.args.class c.args.to.0 x) ∷ rest) t)
    (err_as c.from_residual-in_err-number.result c.in_err-number.field-0.0 halts.Here c.from_residual-in_err-number.ensures.1 e)

pub returns-clause-goes : goal.returns-clause-goes
returns-clause-goes c k u n sp x fine rest t names nm =
    let s = c.args.spot.now in
    let m = entry_at s n (Number c.args.class c.args.to.0 x) in
    let first = c.in_ok-gap.ensures.goes k u n (m ∷ rest) t in
    let both = c.in_ok-number.ensures.goes k u n sp (Number c.args.class c.args.to.0 x) tt tt rest first in
    let node = c.next_node-node.ensures k u m tt rest first (let w = both.0.within in let o = c.in_ok-number.ensures.next in omega (arith, w, o)) in
    let place = c.in_ok-from.ensures k u (subst (IsSpot k s) (sym node) sp) ∙ ap (only_spot k c.args.class s.home) node in
    let named = c.in_ok-cell.ensures.names k x m names refl place nm both.1 fine in
    (ap (λ y. (tree.Ptr y, 0)) (cell_named c.in_ok-cell.cell ∙ named.0), (both.0, named.1))

pub returns-in_err-cell-clause-ends : goal.returns-in_err-cell-clause-ends
returns-in_err-cell-clause-ends c k u n sp x rest t e =
    memory_only c.from_residual-in_err-cell.result c.in_err-cell.field-0.0 c.from_residual-in_err-cell.ensures.1 c.in_err-cell.ensures.memory e
