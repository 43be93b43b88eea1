use Rattle.std.proofs.Common.{rules, ℤ, ◌∷◌, ◌∙◌, length, ap, ap₂}
use Rattle.std.proofs.lemmas.Int.{to_z-of_z}
use mir.Val.{SFits}
use mir.Syntax.{w128}
use Rattle.nd_types.specs.Table.{selected}
use Rattle.nd_value.specs.Nodes.{selected_types}
use Rattle.nd_value.specs.Tree as tree
use Rattle.nd_grammar.specs.Entry.{Tag}
use Rattle.ndr_trace_value.specs.declared.progress.Halt.TheVariants as halts
use Rattle.ndr_trace_value.specs.Tracing.{entry_at}
use Rattle.ndr_trace_value.proofs.Passing.{err_as}
use Rattle.ndr_trace_value.proofs.nodes.tagged.Goals as goal

pub returns-in_err-gap-clause-ends : goal.returns-in_err-gap-clause-ends
returns-in_err-gap-clause-ends c k u n sp p vs z rest t e =
    c.in_err-gap.ensures.ends k u n sp (entry_at c.args.spot.now n (Tag p vs c.args.arms.now c.args.default.now z) ∷ rest) t
    (err_as c.from_residual.result c.in_err-gap.field-0.0 halts.Here c.from_residual.ensures.1 e)

pub returns-in_err-tag-clause-ends : goal.returns-in_err-tag-clause-ends
returns-in_err-tag-clause-ends c k u n sp p vs z rest t e =
    c.in_err-tag.ensures.ends k u n sp (Tag p vs c.args.arms.now c.args.default.now z) tt rest
    (c.in_ok-gap.ensures.goes k u n (entry_at c.args.spot.now n (Tag p vs c.args.arms.now c.args.default.now z) ∷ rest) t)
    (err_as c.from_residual-in_err-tag.result c.in_err-tag.field-0.0 halts.Here c.from_residual-in_err-tag.ensures.1 e)

pub returns-clause-goes : goal.returns-clause-goes
returns-clause-goes c k u n sp p vs z rest t =
    let y : ℤ = c.in_ok-tag.tag in
    let fits : SFits w128 y = search rules in
    let arms = c.args.arms.now in
    let default = c.args.default.now in
    let first = c.in_ok-gap.ensures.goes k u n (entry_at c.args.spot.now n (Tag p vs arms default z) ∷ rest) t in
    let both = c.in_ok-tag.ensures.goes k u n sp (Tag p vs arms default z) tt tt tt rest first in
    let is = to_z-of_z w128 y fits ∙ both.1 in
    (ap₂ (λ x m. (tree.Union x, m)) is (c.has_value-armed.ensures ∙ ap (λ a. length (selected_types a)) (c.selected.ensures ∙ ap (selected arms default) is)), both.0)
