use Rattle.std.proofs.Common.{ℤ, ap, rules}
use Rattle.std.proofs.lemmas.Result.{err_from_is_err_and}
use Rattle.std.proofs.lemmas.Int.{to_z-of_z}
use mir.Val.{SFits}
use mir.Syntax.{w128}
use Rattle.nd_value.specs.Tree as tree
use Rattle.nd_value.specs.Tree.{node, none}
use Rattle.text_parser.proofs.ValueForms.{numeral_value, numeral_halts}
use Rattle.text_parser.proofs.values.numeral.Goals as goal

pub returns-clause-ok : goal.returns-clause-ok
returns-clause-ok c =
    let fits : SFits w128 c.in_ok-value.value = search rules in
    λ t ns n. numeral_value c.args.under.version c.args.under.types.now t ns c.args.text.now c.in_ok-value.rest.now c.in_ok-value.value _ n c.in_ok-value.ensures.ok
    (ap (λ (y : ℤ). node (tree.Num y) none) (to_z-of_z w128 c.in_ok-value.value fits))

pub returns-in_err-value-clause-err : goal.returns-in_err-value-clause-err
returns-in_err-value-clause-err c =
    let p = err_from_is_err_and c.from_residual.result c.from_residual.ensures.1 in
    rw (p.1, p.2) (λ t ns n. numeral_halts c.args.under.version c.args.under.types.now t ns c.args.text.now c.in_err-value.field-0.0 n c.in_err-value.ensures.err)
