use Rattle.std.proofs.Common.{◌∙◌, ◌^◌, ◌+ℤ◌, ℤ, pos, ap, arith, rules}
use mir.Val.{SFits}
use mir.Syntax.{w128}
use Rattle.idl_scope.proofs.Small.{sum_fits, sum_is}
use Rattle.idl_declared_types.proofs.typing.count_through.Goals as goal

pub overflow_add-result : goal.overflow_add-result
overflow_add-result c =
    let fits : SFits w128 c.number.result = search rules in
    sum_fits (2 ^ 64) c.number.result (omega arith) c.number.ensures.small fits

pub returns : goal.returns
returns c =
    let fits : SFits w128 c.number.result = search rules in
    sum_is (2 ^ 64) c.number.result (omega arith) c.number.ensures.small fits ∙ ap (λ (z : ℤ). z +ℤ pos 1) c.number.ensures.value
