use Rattle.std.proofs.Common.{◌∙◌, ap, sym, drop, ◌++◌, arith}
use Rattle.idl_listing.specs.Listing.{arm_line}
use Rattle.std.proofs.Common.{◌+◌}
use Rattle.std.specs.List.{flat_map}
use Rattle.idl_listing.proofs.ListedLines.{line_more, line_end}
use Rattle.idl_listing.proofs.type_lines.arm_lines.Goals as goal

pub loop-at-preserved : goal.loop-at-preserved
loop-at-preserved c =
    let l = c.loop-at in
    ap (λ t. t ++ flat_map arm_line (drop (l.at + 1) c.args.arms.now)) c.in_ok-arm_line.ensures ∙ line_more arm_line c.args.arms.now l.at c.in-Some.arm.now l.text c.in-Some.ensures.some ∙ l.invariant

pub returns : goal.returns
returns c =
    let l = c.loop-at in
    sym (line_end arm_line c.args.arms.now l.at l.text (omega (arith, c.len-at-end.ensures, c.loop-at-test.false))) ∙ l.invariant
