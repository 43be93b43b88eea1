use Rattle.std.proofs.Common.{◌∙◌, ◌+◌, ◌++◌, ap, sym, drop, arith}
use Rattle.ndr_code.specs.Code.{field_checks, member_checks}
use Rattle.ndr_plan.proofs.Pushed.{checks_more, checks_end}
use Rattle.ndr_plan.proofs.type_code.push_checks.Goals as goal

pub loop-at-preserved : goal.loop-at-preserved
loop-at-preserved c =
    let l = c.loop-at in
    let f = c.in-Some.member.now in
    ap (λ t. t ++ member_checks (l.at + 1) (drop (l.at + 1) c.args.members.now))
    (c.in_ok-push_field_checks.ensures ∙ ap (λ k. l.code ++ field_checks k f.vars) c.in_ok-narrow.ensures)
    ∙ checks_more c.args.members.now l.at f l.code c.in-Some.ensures.some ∙ l.invariant

pub returns : goal.returns
returns c =
    let l = c.loop-at in
    sym (checks_end c.args.members.now l.at l.code (omega (arith, c.len-at-end.ensures, c.loop-at-test.false))) ∙ l.invariant
