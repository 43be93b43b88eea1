use Rattle.std.proofs.Common.{◌++◌, take}
use Rattle.ndr_encoder_output.specs.Counting.{names_of}
use Rattle.ndr_encoder_laws.specs.turns.Turned.{cells_of}
use Rattle.ndr_encode.proofs.NamedCells.{within_at, numbered_more}
use Rattle.ndr_encode.proofs.numbering.number_all.Goals as goal

pub number-requires : goal.number-requires
number-requires c =
    let (n, names, few, within, x) = c.requires in
    let (low, high) = within_at n c.args.cells.now c.loop-each.each-index (record { cell = record { 0 = 0 }; run = 0 }) c.loop-each-test.true within in
    (n, names ++ cells_of (names_of (take c.loop-each.each-index c.args.cells.now)), few, low, high, c.loop-each.invariant n names within x)

pub loop-each-preserved : goal.loop-each-preserved
loop-each-preserved c n names within x =
    let (low, high) = within_at n c.args.cells.now c.loop-each.each-index (record { cell = record { 0 = 0 }; run = 0 }) c.loop-each-test.true within in
    numbered_more n names c.args.cells.now c.loop-each.each-index (record { cell = record { 0 = 0 }; run = 0 }) c.number.new.numbers.items c.number.new.named c.loop-each-test.true
    (c.number.ensures n (names ++ cells_of (names_of (take c.loop-each.each-index c.args.cells.now))) low high (c.loop-each.invariant n names within x))
