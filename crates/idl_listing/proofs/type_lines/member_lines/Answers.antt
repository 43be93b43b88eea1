use Rattle.std.proofs.Common.{◌∙◌, ap, sym, drop, ◌++◌, arith}
use Rattle.idl_listing.specs.Listing.{member_line}
use Rattle.std.proofs.Common.{◌+◌}
use Rattle.std.specs.List.{flat_map}
use Rattle.idl_listing.proofs.ListedLines.{line_more, line_end}
use Rattle.idl_listing.proofs.type_lines.member_lines.Goals as goal

pub loop-at-preserved : goal.loop-at-preserved
loop-at-preserved c =
    let l = c.loop-at in
    ap (λ t. t ++ flat_map (member_line c.args.members.now) (drop (l.at + 1) c.args.members.now)) c.in_ok-member_line.ensures
    ∙ line_more (member_line c.args.members.now) c.args.members.now l.at c.in-Some.member.now l.text c.in-Some.ensures.some ∙ l.invariant

pub returns : goal.returns
returns c =
    let l = c.loop-at in
    sym (line_end (member_line c.args.members.now) c.args.members.now l.at l.text (omega (arith, c.len-at-end.ensures, c.loop-at-test.false))) ∙ l.invariant
