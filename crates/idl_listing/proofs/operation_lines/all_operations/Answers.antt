use Rattle.std.proofs.Common.{◌∙◌, ◌+◌, ◌++◌, ap, sym, drop, arith}
use Rattle.std.specs.List.{flat_map, enumerate_from}
use Rattle.idl_listing.specs.Listing.{operation_lines}
use Rattle.idl_listing.proofs.ListedLines.{counted_more, counted_end}
use Rattle.idl_listing.proofs.operation_lines.all_operations.Goals as goal

pub loop-at-preserved : goal.loop-at-preserved
loop-at-preserved c =
    let l = c.loop-at in
    let i = c.args.interface.now in
    let f = operation_lines i.types in
    ap (λ t. t ++ flat_map f (enumerate_from (l.at + 1) (drop (l.at + 1) i.operations))) c.in_ok-operation_lines.ensures
    ∙ counted_more f i.operations l.at c.in-Some.operation.now l.text c.in-Some.ensures.some
    ∙ l.invariant

pub returns : goal.returns
returns c =
    let l = c.loop-at in
    let i = c.args.interface.now in
    sym (counted_end (operation_lines i.types) i.operations l.at l.text (omega (arith, c.len-at-end.ensures, c.loop-at-test.false))) ∙ l.invariant
