use Rattle.std.proofs.Common.{◌∙◌, ◌+◌, ◌++◌, ap, sym, drop, arith}
use Rattle.std.specs.List.{flat_map, enumerate_from}
use Rattle.idl_listing.specs.Listing.{type_line, part_lines, type_lines}
use Rattle.idl_listing.proofs.WordByWord.{then_piece}
use Rattle.idl_listing.proofs.ListedLines.{counted_more, counted_end}
use Rattle.idl_listing.proofs.type_lines.own_types.Goals as goal

pub loop-at-preserved : goal.loop-at-preserved
loop-at-preserved c =
    let l = c.loop-at in
    let types = c.args.interface.now.types in
    let d = c.in-Some.definition.now in
    ap (λ t. t ++ flat_map (type_lines types) (enumerate_from (l.at + 1) (drop (l.at + 1) types)))
    (c.in_ok-part_lines.ensures ∙ then_piece l.text _ (type_line types l.at d) (part_lines d) c.in_ok-type_line.ensures)
    ∙ counted_more (type_lines types) types l.at d l.text c.in-Some.ensures.some
    ∙ l.invariant

pub returns : goal.returns
returns c =
    let l = c.loop-at in
    let types = c.args.interface.now.types in
    sym (counted_end (type_lines types) types l.at l.text (omega (arith, c.len-at-end.ensures, c.loop-at-test.false))) ∙ l.invariant
