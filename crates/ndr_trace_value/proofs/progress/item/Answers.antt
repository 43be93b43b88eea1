use Rattle.std.proofs.Common.{rules, ℤ, ◌+◌, ◌∙◌, ap, arith, subst, sym}
use Rattle.std.proofs.lemmas.Int.{to_z-of_z}
use mir.Val.{SFits}
use mir.Syntax.{w128}
use Rattle.nd_lemmas.proofs.Lists.{past_end}
use Rattle.ndr_trace_value.specs.declared.progress.Halt.TheVariants as halts
use Rattle.ndr_trace_value.specs.Tracing.{Holds}
use Rattle.ndr_trace_value.proofs.Items.{item_ends, item_goes}
use Rattle.ndr_trace_value.proofs.Passing.{same_err}
use Rattle.ndr_trace_value.proofs.progress.item.Goals as goal

pub returns-then-progress-len-clause-ends : goal.returns-then-progress-len-clause-ends
returns-then-progress-len-clause-ends c k u n sp x ix rest t e =
    item_ends k c.args.ground.now u c.args.spot.now n sp x ix rest c.args.progress.now c.end.new.progress t
    (let l = c.len.ensures in let o = c.if-progress-len.true in omega (arith, l, o)) c.end.ensures.lines
    (λ none. c.end.ensures.path none (same_err c.end.result halts.Here e)) c.end.ensures.same c.end.ensures.variable c.end.ensures.from

pub unreachable-requires : goal.unreachable-requires
unreachable-requires c =
    let l = c.len.ensures in
    let o = c.if-progress-len.false in
    let p = past_end c.args.ground.now.items.now.items c.args.progress.now.next c.in_default.ensures.none in
    absurd (omega (arith, l, o, p))

pub returns-clause-goes : goal.returns-clause-goes
returns-clause-goes c k u n sp x ix label front rest t =
    let z : ℤ = c.in-Some.item.now.value in
    let fits : SFits w128 z = search rules in
    let both =
    item_goes k c.args.ground.now u c.args.spot.now n sp x ix label front rest c.args.progress.now c.pass.new.progress t c.in-Some.item.now c.in-Some.ensures.some
    c.append_head.new.text c.append.new.self c.append_path.new.text c.append-2.new.self c.append_held.new.text c.append-3.new.self
    c.in_ok-append_head.ensures c.in_ok-append.ensures.ok c.in_ok-append_path.ensures c.in_ok-append-2.ensures.ok c.in_ok-append_held.ensures
    c.in_ok-append-3.ensures.ok (c.pass.ensures.lines ∙ c.in_ok-keep.ensures.lines) (c.pass.ensures.next ∙ ap (λ n. n + 1) c.in_ok-keep.ensures.next)
    c.pass.ensures.at (c.pass.ensures.path ∙ c.in_ok-keep.ensures.path) (c.pass.ensures.variable ∙ c.in_ok-keep.ensures.variable)
    (c.pass.ensures.from ∙ c.in_ok-keep.ensures.from) in
    (both.0, subst (Holds k x) (sym (to_z-of_z w128 z fits)) both.1)
