use Rattle.std.proofs.Common.{◌∙◌, ◌+◌, ◌++◌, ap, sym, drop, arith}
use Rattle.std.specs.List.{flat_map, enumerate_from}
use Rattle.ndr_plan.specs.Listing.{instr_line}
use Rattle.idl_listing.proofs.ListedLines.{counted_more, counted_end}
use Rattle.ndr_plan.proofs.plan_lines.code_lines.Goals as goal

pub loop-at-preserved : goal.loop-at-preserved
loop-at-preserved c =
    let l = c.loop-at in
    let code = c.args.code.now in
    ap (λ t. t ++ flat_map instr_line (enumerate_from (l.at + 1) (drop (l.at + 1) code))) c.in_ok-instr_line.ensures
    ∙ counted_more instr_line code l.at c.in-Some.instr.now l.text c.in-Some.ensures.some
    ∙ l.invariant

pub returns : goal.returns
returns c =
    let l = c.loop-at in
    sym (counted_end instr_line c.args.code.now l.at l.text (omega (arith, c.len-at-end.ensures, c.loop-at-test.false))) ∙ l.invariant
