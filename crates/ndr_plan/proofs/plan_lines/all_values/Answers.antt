use Rattle.std.proofs.Common.{◌∙◌, ◌+◌, ◌++◌, ap, sym, drop, arith}
use Rattle.std.specs.List.{flat_map}
use Rattle.ndr_plan.specs.Listing.{values_line}
use Rattle.idl_listing.proofs.ListedLines.{line_more, line_end}
use Rattle.ndr_plan.proofs.plan_lines.all_values.Goals as goal

pub loop-at-preserved : goal.loop-at-preserved
loop-at-preserved c =
    let l = c.loop-at in
    ap (λ t. t ++ flat_map values_line (drop (l.at + 1) c.args.lists.now)) c.in_ok-values_line.ensures
    ∙ line_more values_line c.args.lists.now l.at c.in-Some.list.now l.text c.in-Some.ensures.some ∙ l.invariant

pub returns : goal.returns
returns c =
    let l = c.loop-at in
    sym (line_end values_line c.args.lists.now l.at l.text (omega (arith, c.len-at-end.ensures, c.loop-at-test.false))) ∙ l.invariant
