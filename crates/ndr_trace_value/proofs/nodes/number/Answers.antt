use Rattle.std.proofs.Common.{rules, ℤ, ◌∷◌, ◌∙◌, ap}
use Rattle.std.proofs.lemmas.Int.{to_z-of_z}
use mir.Val.{SFits}
use mir.Syntax.{w128}
use Rattle.nd_value.specs.Tree as tree
use Rattle.nd_grammar.specs.Entry.{Num}
use Rattle.ndr_trace_value.specs.declared.progress.Halt.TheVariants as halts
use Rattle.ndr_trace_value.specs.Tracing.{entry_at}
use Rattle.ndr_trace_value.proofs.Passing.{err_as}
use Rattle.ndr_trace_value.proofs.nodes.number.Goals as goal

pub returns-in_err-gap-clause-ends : goal.returns-in_err-gap-clause-ends
returns-in_err-gap-clause-ends c k u n sp p vs z rest t e =
    c.in_err-gap.ensures.ends k u n sp (entry_at c.args.spot.now n (Num p vs z) ∷ rest) t
    (err_as c.from_residual.result c.in_err-gap.field-0.0 halts.Here c.from_residual.ensures.1 e)

pub returns-in_err-value-clause-ends : goal.returns-in_err-value-clause-ends
returns-in_err-value-clause-ends c k u n sp p vs z rest t e =
    c.in_err-value.ensures.ends k u n sp (Num p vs z) tt rest (c.in_ok-gap.ensures.goes k u n (entry_at c.args.spot.now n (Num p vs z) ∷ rest) t)
    (err_as c.from_residual-in_err-value.result c.in_err-value.field-0.0 halts.Here c.from_residual-in_err-value.ensures.1 e)

pub returns-clause-goes : goal.returns-clause-goes
returns-clause-goes c k u n sp p vs z rest t =
    let y : ℤ = c.in_ok-value.value in
    let fits : SFits w128 y = search rules in
    let first = c.in_ok-gap.ensures.goes k u n (entry_at c.args.spot.now n (Num p vs z) ∷ rest) t in
    let both = c.in_ok-value.ensures.goes k u n sp (Num p vs z) tt tt tt rest first in
    (ap (λ x. (tree.Num x, 0)) (to_z-of_z w128 y fits ∙ both.1), both.0)
