use Rattle.std.proofs.Common.{◌+◌, ◌∙◌, length, drop, refl, ap, subst, sym, arith}
use Rattle.std.proofs.lemmas.Result.{err_from_is_err_and}
use Rattle.nd_value.specs.Seen.{cell_of}
use Rattle.nd_value.specs.Conforms.{or_later}
use Rattle.nd_value.proofs.LocalPass.{tells_first}
use Rattle.nd_misfits.specs.HomeList.{cell_homes}
use Rattle.nd_misfits.specs.Pointers.{IsWalkable}
use Rattle.nd_misfits.specs.Disagreeing.{disagreeing_homes}
use Rattle.nd_misfits.proofs.HomeWalk.{walkable_cell, cell_none}
use Rattle.nd_misfits.proofs.Disagreements.{cells_left}
use Rattle.nd_misfits.proofs.disagreeing.among_cells.Goals as goal

pub loop-at-init : goal.loop-at-init
loop-at-init c w table op are = refl

pub one-requires-clause-walkable : goal.one-requires-clause-walkable
one-requires-clause-walkable c =
    subst (IsWalkable c.args.types.now (length c.args.graph.now.cells + 1)) (sym c.cell_home.ensures)
    (walkable_cell c.args.types.now _ c.args.graph.now.cells c.loop-at.at (cell_of c.in-Some.cell.now) c.in-Some.ensures.some c.requires.walkable)

pub returns-in_err-one-clause-first : goal.returns-in_err-one-clause-first
returns-in_err-one-clause-first c =
    let p = err_from_is_err_and c.from_residual.result c.from_residual.ensures.1 in
    rw (p.1, p.2)
    (λ w table op are.
    tells_first _ _ _ _
    (c.loop-at.invariant w table op are
    ∙ cells_left w c.args.graph.now c.args.graph.now.cells c.loop-at.at (cell_of c.in-Some.cell.now) _ (sym c.cell_home.ensures) c.in-Some.ensures.some)
    (c.in_err-one.ensures.first w table op are))

pub loop-at-preserved : goal.loop-at-preserved
loop-at-preserved c w table op are =
    let cells = c.args.graph.now.cells in
    c.loop-at.invariant w table op are ∙ cells_left w c.args.graph.now cells c.loop-at.at (cell_of c.in-Some.cell.now) _ (sym c.cell_home.ensures) c.in-Some.ensures.some
    ∙ ap (λ o. or_later o (disagreeing_homes w c.args.graph.now (cell_homes (c.loop-at.at + 1 + 1) (drop (c.loop-at.at + 1) cells)))) (c.in_ok-one.ensures.none w table op are)

pub returns-clause-none : goal.returns-clause-none
returns-clause-none c w table op are =
    c.loop-at.invariant w table op are
    ∙ ap (disagreeing_homes w c.args.graph.now) (cell_none c.args.graph.now.cells c.loop-at.at (omega (arith, c.loop-at-test.false, c.len-at-end.ensures)))
