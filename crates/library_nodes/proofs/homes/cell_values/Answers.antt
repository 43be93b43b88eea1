use Rattle.std.proofs.Common.{◌≡◌, ◌∙◌, ◌<◌, ℕ, length, get_or, refl, sym, ap, arith}
use Rattle.std.proofs.lemmas.Result.{err_from_is_err_and}
use Rattle.std.proofs.lemmas.Option.{slice_get-get_or}
use Rattle.nd_value.specs.Seen.{tree_of}
use Rattle.nd_value.specs.Tree.{Referent}
use Rattle.library_nodes.proofs.Lists.{no_cells, next_cell, all_cells, stops_at}
use Rattle.library_nodes.proofs.homes.cell_values.Goals as goal

pub loop-number-init : goal.loop-number-init
loop-number-init c = no_cells c.args.types.now c.args.numbers.now c.args.reader.now c.new-cells.result c.new-cells.ensures

pub returns-in_err-val : goal.returns-in_err-val
returns-in_err-val c =
    let i : ℕ = c.loop-number.number-index in
    let p = err_from_is_err_and c.from_residual.result c.from_residual.ensures.1 in
    rw (p.1, p.2)
    (stops_at c.args.types.now c.args.numbers.now i (get_or c.args.numbers.now i 0) c.args.reader.now c.loop-number.reader _ c.in_err-val.field-0.0
    (slice_get-get_or c.args.numbers.now i 0 (omega arith)) c.loop-number.invariant.come c.in_err-val.ensures)

pub loop-number-preserved : goal.loop-number-preserved
loop-number-preserved c =
    let i : ℕ = c.loop-number.number-index in
    let cell : Referent = record { of = get_or c.args.numbers.now i 0; val = tree_of c.in_ok-val.val } in
    next_cell c.args.types.now c.args.numbers.now i c.args.reader.now c.loop-number.reader c.value.new.reader c.loop-number.cells c.push.new.self cell
    (slice_get-get_or c.args.numbers.now i 0 (omega arith)) c.loop-number.invariant c.in_ok-val.ensures c.in-Ok.ensures.ok

pub returns : goal.returns
returns c =
    all_cells c.args.types.now c.args.numbers.now c.loop-number.number-index c.args.reader.now c.loop-number.reader c.loop-number.cells (omega arith) c.loop-number.invariant
