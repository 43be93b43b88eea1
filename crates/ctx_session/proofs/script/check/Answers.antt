use Rattle.std.proofs.Common.{◌≡◌, ◌∙◌, ap, sym, subst, ℕ, ◌+◌, take, arith}
use Rattle.ctx_session.specs.Lines.{line_meant}
use Rattle.ctx_session.proofs.Scripts.{IsChecked, start, next, not_a_line, all}
use Rattle.ctx_session.proofs.script.check.Goals as goal

pub loop-rest-init : goal.loop-rest-init
loop-rest-init c = start c.args.script.now

pub returns-in_default-clause-bad : goal.returns-in_default-clause-bad
returns-in_default-clause-bad c =
    not_a_line c.args.script.now c.loop-rest.rest.now c.loop-rest.lines c.loop-rest.opened c.loop-rest.invariant (c.in_default.ensures.other (omega arith))

pub loop-rest-preserved : goal.loop-rest-preserved
loop-rest-preserved c =
    let first = c.in-Some.first in
    let front = take first.end c.loop-rest.rest.now in
    let P : ℕ → Type 0 = λ n. IsChecked c.args.script.now c.rest_at-rest.result.now (c.loop-rest.lines + 1) (c.loop-rest.opened + n) in
    subst P (sym (c.opens-opened.ensures front))
    (next c.args.script.now c.loop-rest.rest.now c.loop-rest.lines c.loop-rest.opened c.loop-rest.invariant c.rest_at-rest.result.now first.end (line_meant front first.line)
    c.in-Some.ensures.line c.in-Some.ensures.within c.rest_at-rest.ensures)

pub returns-clause-lines : goal.returns-clause-lines
returns-clause-lines c =
    all c.args.script.now c.loop-rest.rest.now c.loop-rest.lines c.loop-rest.opened c.loop-rest.invariant (omega arith)
