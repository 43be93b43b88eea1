use Rattle.std.proofs.Common.{◌+◌, drop, sym, ap, ◌∙◌, arith}
use Rattle.nd_value.specs.Tree.{more, none}
use Rattle.nd_value.specs.Setting.{cell_tree}
use Rattle.nd_lemmas.proofs.Lists.{item_at}
use Rattle.nd_flat.specs.Building.{referent_type}
use Rattle.text_printer.specs.Texts.{cell_text, cells_text}
use Rattle.text_printer.proofs.Listing.{comes_on, comes_all}
use Rattle.text_printer.proofs.Lines.{cell_next, cell_begins, cells_past}
use Rattle.text_printer.proofs.graphs.append_cells.Goals as goal

pub loop-at-preserved : goal.loop-at-preserved
loop-at-preserved c whole =
    let xs = c.args.graph.now.cells in
    let i = c.loop-at.at in
    let table = c.args.types.now in
    let (x, there) = item_at xs i (omega arith) in
    let same = c.cell_type.ensures ∙ ap referent_type there in
    let is = c.cell_walk-walk.ensures ∙ ap (λ y. more (cell_tree y) none) there in
    comes_on c.loop-at.text c.append_cell.new.text (cell_text table (i + 1) x) _ (cells_text table (i + 1 + 1) (drop (i + 1) xs)) c.args.text.now (cells_text table 1 xs)
    (c.loop-at.invariant whole) (cell_next table xs i x there) (c.in_ok-append_cell.ensures x (sym same) is (cell_begins table xs i x there whole))

pub returns : goal.returns
returns c whole =
    let xs = c.args.graph.now.cells in
    comes_all c.loop-at.text _ c.args.text.now (cells_text c.args.types.now 1 xs) (c.loop-at.invariant whole) (cells_past c.args.types.now xs c.loop-at.at (omega arith))
