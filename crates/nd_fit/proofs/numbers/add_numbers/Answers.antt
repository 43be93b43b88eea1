use Rattle.std.proofs.Common.{◌∙◌}
use Rattle.std.proofs.lemmas.Result.{on_ok_weaker}
use Rattle.nd_fit.proofs.Packing.{row_adds, row_is_whole}
use Rattle.nd_fit.proofs.numbers.add_numbers.Goals as goal

pub row-requires-clause-whole : goal.row-requires-clause-whole
row-requires-clause-whole c = row_is_whole c.args.prim c.args.vals.now c.len.result c.as_slice.result.now c.len.ensures (c.as_slice.ensures ∙ c.in_ok-octets.ensures)

pub returns : goal.returns
returns c =
    on_ok_weaker c.row.result
    (row_adds c.args.prim c.args.vals.now c.len.result c.as_slice.result.now c.args.builder.now c.row.new.self c.len.ensures (c.as_slice.ensures ∙ c.in_ok-octets.ensures)
    c.requires.numbers)
    c.row.ensures.ok
