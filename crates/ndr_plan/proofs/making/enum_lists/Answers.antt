use Rattle.std.proofs.Common.{◌∙◌, ◌+◌, ◌++◌, ap, sym, drop, arith}
use Rattle.std.specs.List.{flat_map, enumerate_from}
use Rattle.ndr_code.specs.Code.{enum_list}
use Rattle.idl_listing.proofs.ListedLines.{counted_more, counted_end}
use Rattle.ndr_plan.proofs.making.enum_lists.Goals as goal

pub loop-at-preserved : goal.loop-at-preserved
loop-at-preserved c =
    let l = c.loop-at in
    let types = c.args.interface.now.types in
    ap (λ t. t ++ flat_map enum_list (enumerate_from (l.at + 1) (drop (l.at + 1) types))) c.in_ok-push_enum.ensures
    ∙ counted_more enum_list types l.at c.in-Some.definition.now l.lists c.in-Some.ensures.some
    ∙ l.invariant

pub returns : goal.returns
returns c =
    let l = c.loop-at in
    let types = c.args.interface.now.types in
    sym (counted_end enum_list types l.at l.lists (omega (arith, c.len-at-end.ensures, c.loop-at-test.false))) ∙ l.invariant
