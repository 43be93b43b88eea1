use Rattle.std.proofs.Common.{rules, ℤ, subst, sym}
use Rattle.std.proofs.lemmas.Int.{to_z-of_z}
use mir.Val.{SFits}
use mir.Syntax.{w128}
use Rattle.ndr_trace_value.specs.declared.progress.Halt.TheVariants as halts
use Rattle.ndr_trace_value.specs.Tracing.{IsCounted}
use Rattle.ndr_trace_value.proofs.Items.{count_has_label, count_held, count_is_item}
use Rattle.ndr_trace_value.proofs.Passing.{err_as}
use Rattle.ndr_trace_value.proofs.progress.count.Goals as goal

pub returns-in_err-value-clause-ends : goal.returns-in_err-value-clause-ends
returns-in_err-value-clause-ends c k u n sp x ix rest t e =
    c.in_err-value.ensures.ends k u n sp x (count_is_item x ix) rest t (err_as c.from_residual.result c.in_err-value.field-0.0 halts.Here c.from_residual.ensures.1 e)

pub returns-clause-goes : goal.returns-clause-goes
returns-clause-goes c k u n sp x ix front rest t =
    let z : ℤ = c.in_ok-value.value in
    let fits : SFits w128 z = search rules in
    let both = c.in_ok-value.ensures.goes k u n sp x (count_is_item x ix) (count_has_label k c.args.spot.now.home n x ix) front rest t in
    (both.0, count_held k x z c.as_count.result ix both.1 (λ v h. c.as_count.ensures v (subst (λ y. IsCounted y v) (sym (to_z-of_z w128 z fits)) h)))
