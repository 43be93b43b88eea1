use Rattle.std.proofs.Common.{◌+◌, ◌∙◌, length, drop, refl, ap, subst, sym, arith}
use Rattle.std.proofs.lemmas.Result.{err_from_is_err_and}
use Rattle.nd_value.specs.Seen.{cell_of}
use Rattle.nd_misfits.specs.HomeList.{cell_homes}
use Rattle.nd_misfits.specs.Pointers.{first_clash, pointers_of_homes, IsWalkable}
use Rattle.nd_misfits.proofs.Sharing.{tells_same, first_with}
use Rattle.nd_misfits.proofs.HomeWalk.{walkable_cell, walkable_still, cell_more, cell_none}
use Rattle.nd_misfits.proofs.shared.among_cells.Goals as goal

pub loop-at-init : goal.loop-at-init
loop-at-init c = record { length = refl; left = refl }

pub in_home-requires : goal.in_home-requires
in_home-requires c = record {
  walkable =
      subst (IsWalkable c.args.types.now (length c.loop-at.names.items)) (sym c.cell_home.ensures)
      (walkable_still _ _ _ _ c.loop-at.invariant.length
      (walkable_cell c.args.types.now _ c.args.graph.now.cells c.loop-at.at (cell_of c.in-Some.cell.now) c.in-Some.ensures.some c.requires.walkable));
}

pub returns-in_err-in_home-clause-first : goal.returns-in_err-in_home-clause-first
returns-in_err-in_home-clause-first c =
    let p = err_from_is_err_and c.from_residual.result c.from_residual.ensures.1 in
    let cells = c.args.graph.now.cells in
    rw (p.1, p.2)
    (tells_same _ _ _
    (c.loop-at.invariant.left
    ∙ ap (λ hs. first_clash c.loop-at.names.items (pointers_of_homes c.args.types.now hs)) (cell_more cells c.loop-at.at (cell_of c.in-Some.cell.now) c.in-Some.ensures.some)
    ∙ first_with c.args.types.now c.loop-at.names.items _ _ (cell_homes (c.loop-at.at + 1 + 1) (drop (c.loop-at.at + 1) cells)) (sym c.cell_home.ensures))
    (c.in_err-in_home.ensures.first (pointers_of_homes c.args.types.now (cell_homes (c.loop-at.at + 1 + 1) (drop (c.loop-at.at + 1) cells)))))

pub loop-at-preserved : goal.loop-at-preserved
loop-at-preserved c = record {
  length = c.in_ok-in_home.ensures.length ∙ c.loop-at.invariant.length;
  left =
      let cells = c.args.graph.now.cells in
      c.loop-at.invariant.left
      ∙ ap (λ hs. first_clash c.loop-at.names.items (pointers_of_homes c.args.types.now hs)) (cell_more cells c.loop-at.at (cell_of c.in-Some.cell.now) c.in-Some.ensures.some)
      ∙ first_with c.args.types.now c.loop-at.names.items _ _ (cell_homes (c.loop-at.at + 1 + 1) (drop (c.loop-at.at + 1) cells)) (sym c.cell_home.ensures)
      ∙ c.in_ok-in_home.ensures.none (pointers_of_homes c.args.types.now (cell_homes (c.loop-at.at + 1 + 1) (drop (c.loop-at.at + 1) cells)));
}

pub returns-clause-none : goal.returns-clause-none
returns-clause-none c =
    c.loop-at.invariant.left
    ∙ ap (λ hs. first_clash c.loop-at.names.items (pointers_of_homes c.args.types.now hs)) (cell_none c.args.graph.now.cells c.loop-at.at (omega (arith, c.loop-at-test.false, c.len-at-end.ensures)))
