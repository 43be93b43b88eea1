use Rattle.std.proofs.Common.{◌∙◌, ◌+◌, ◌++◌, ap, sym, drop, arith}
use Rattle.std.specs.List.{flat_map}
use Rattle.idl_listing.proofs.ListedLines.{line_more, line_end}
use Rattle.ndr_plan.specs.Numbers.{number_in}
use Rattle.ndr_plan.specs.Checks.{check_by}
use Rattle.ndr_plan.proofs.side_checks.push_vars.Goals as goal

pub loop-at-preserved : goal.loop-at-preserved
loop-at-preserved c =
    let l = c.loop-at in
    let xs = c.args.vars.now in
    let ns = c.args.numbers.now in
    let check = check_by c.args.side (number_in ns.here.items.items) (number_in ns.asked.items.items) c.args.field in
    ap (λ t. t ++ flat_map check (drop (l.at + 1) xs)) c.in_ok-push_check.ensures
    ∙ line_more check xs l.at c.in-Some.var.now l.code c.in-Some.ensures.some ∙ l.invariant

pub returns : goal.returns
returns c =
    let l = c.loop-at in
    let ns = c.args.numbers.now in
    let check = check_by c.args.side (number_in ns.here.items.items) (number_in ns.asked.items.items) c.args.field in
    sym (line_end check c.args.vars.now l.at l.code (omega (arith, c.len-at-end.ensures, c.loop-at-test.false))) ∙ l.invariant
