use Rattle.std.proofs.Common.{sym, subst}
use Rattle.text_parser.specs.Lines.{LineHalts}
use Rattle.text_parser.proofs.CellParts.{no_cell, out_of_order, unnamed, cell_begun}
use Rattle.text_parser.proofs.texts.cell_begun.Goals as goal

pub returns-in_default-clause-err : goal.returns-in_default-clause-err
returns-in_default-clause-err c =
    λ table. subst (LineHalts c.args.version table c.args.count c.args.names.now c.args.text.now) (sym c.unexpected.ensures)
    (no_cell c.args.version table c.args.count c.args.names.now c.args.text.now c.scan-next.result.here.now c.scan-next.result.rest.now c.scan-next.result.lexeme c.scan-next.ensures.here
    c.scan-next.ensures.comes c.requires.more (sym c.in_default.ensures))

pub returns-then-cell-count-clause-err : goal.returns-then-cell-count-clause-err
returns-then-cell-count-clause-err c =
    λ table. subst (LineHalts c.args.version table c.args.count c.args.names.now c.args.text.now) (sym c.refused.ensures)
    (out_of_order c.args.version table c.args.count c.args.names.now c.args.text.now c.scan-next.result.here.now c.scan-next.result.rest.now c.scan-next.result.lexeme c.scan-next.ensures.here
    c.scan-next.ensures.comes c.in-Some.cell (sym c.in-Some.ensures) c.if-cell-count.true)

pub returns-in-None-clause-err : goal.returns-in-None-clause-err
returns-in-None-clause-err c =
    λ table. subst (LineHalts c.args.version table c.args.count c.args.names.now c.args.text.now) (sym c.refused-in-None.ensures)
    (unnamed c.args.version table c.args.count c.args.names.now c.args.text.now c.scan-next.result.here.now c.scan-next.result.rest.now c.scan-next.result.lexeme c.scan-next.ensures.here
    c.scan-next.ensures.comes c.in-Some.cell (sym c.in-Some.ensures) c.if-cell-count.false (sym c.in-None.ensures))

pub returns-in-Some-type_of-clause-ok : goal.returns-in-Some-type_of-clause-ok
returns-in-Some-type_of-clause-ok c =
    cell_begun c.args.version c.args.count c.args.names.now c.args.text.now c.scan-next.result.rest.now c.scan-next.result.lexeme c.scan-next.ensures.comes c.in-Some.cell
    (sym c.in-Some.ensures) c.if-cell-count.false c.in-Some-type_of.of.0 (sym c.in-Some-type_of.ensures)
