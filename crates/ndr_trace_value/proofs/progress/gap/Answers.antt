use Rattle.std.proofs.Common.{◌+◌, arith, length}
use Rattle.nd_lemmas.proofs.Lists.{past_end}
use Rattle.ndr_trace_value.specs.declared.progress.Halt.TheVariants as halts
use Rattle.ndr_trace_value.proofs.Items.{gap_empty, gap_ends, gap_goes, some_gap}
use Rattle.ndr_trace_value.proofs.Passing.{same_err}
use Rattle.ndr_trace_value.proofs.progress.gap.Goals as goal

pub returns-then-progress-align-eq0-clause-goes : goal.returns-then-progress-align-eq0-clause-goes
returns-then-progress-align-eq0-clause-goes c k u n rest t =
    gap_empty k c.args.ground.now u c.args.spot.now n c.args.align rest c.args.progress.now c.requires c.if-progress-align-eq0.true t

pub returns-then-progress-len-clause-ends : goal.returns-then-progress-len-clause-ends
returns-then-progress-len-clause-ends c k u n sp rest t e =
    gap_ends k c.args.ground.now u c.args.spot.now n sp c.args.align rest c.args.progress.now c.end.new.progress
    (some_gap c.args.progress.now.at c.args.align c.requires c.if-progress-align-eq0.false) t (let l = c.len.ensures in let o = c.if-progress-len.true in omega (arith, l, o))
    c.end.ensures.lines (λ none. c.end.ensures.path none (same_err c.end.result halts.Here e)) c.end.ensures.same c.end.ensures.variable c.end.ensures.from

pub unreachable-requires : goal.unreachable-requires
unreachable-requires c =
    let l = c.len.ensures in
    let o = c.if-progress-len.false in
    let p = past_end c.args.ground.now.items.now.items c.args.progress.now.next c.in_default.ensures.none in
    absurd (omega (arith, l, o, p))

pub returns-clause-goes : goal.returns-clause-goes
returns-clause-goes c k u n rest t =
    gap_goes k c.args.ground.now u c.args.spot.now n c.args.align rest c.args.progress.now c.pass.new.progress
    (some_gap c.args.progress.now.at c.args.align c.requires c.if-progress-align-eq0.false) t c.in-Some.item.now c.in-Some.ensures.some c.append_head.new.text
    c.append_gap.new.text c.append.new.self c.in_ok-append_head.ensures c.in_ok-append_gap.ensures
    c.in_ok-append.ensures.ok c.pass.ensures.lines c.pass.ensures.next c.pass.ensures.at c.pass.ensures.path c.pass.ensures.variable c.pass.ensures.from
