use Rattle.std.proofs.Common.{◌≡◌, ◌+◌, ◌∙◌, refl, ap, map, Some, arith}
use Rattle.std.proofs.lemmas.Result.{err_from_is_err_and}
use Rattle.std.specs.List.{slice_get}
use Rattle.std.specs.Option.{option_map}
use Rattle.std.proofs.lemmas.List.{length-map}
use Rattle.std.proofs.lemmas.Option.{slice_get-map}
use Rattle.nd_value.specs.Tree.{Referent}
use Rattle.nd_value.specs.Seen.{tree_of, cell_of}
use Rattle.nd_misfits.proofs.NodeWalk.{few_at, machine_next, machine_end}
use Rattle.nd_value.specs.Passes.{first_in_cells}
use Rattle.nd_value.proofs.LocalPass.{cell_next, tells_first, later_left}
use Rattle.nd_lemmas.proofs.Lists.{drop_past as drop-past}
use Rattle.nd_misfits.proofs.local.cells.Goals as goal

pub home-requires : goal.home-requires
home-requires c =
    let cells = c.args.graph.now.cells in
    let there : slice_get (map (λ (x : Referent). x.val) cells) c.loop-at.at ≡ Some (tree_of c.in-Some.cell.now.val) =
    slice_get-map (λ (x : Referent). x.val) cells c.loop-at.at ∙ ap (option_map (λ (x : Referent). x.val)) c.in-Some.ensures.some in
    record { few = few_at (map (λ (x : Referent). x.val) cells) c.loop-at.at (tree_of c.in-Some.cell.now.val) c.requires.few_nodes there }

pub loop-at-init : goal.loop-at-init
loop-at-init c = record { left = refl; machine = refl }

pub returns-in_err-home-clause-first : goal.returns-in_err-home-clause-first
returns-in_err-home-clause-first c =
    let g = c.args.graph.now in
    let next = c.loop-at.invariant.left ∙ cell_next c.args.types.now g g.cells c.loop-at.at (cell_of c.in-Some.cell.now) c.in-Some.ensures.some in
    let p = err_from_is_err_and c.from_residual.result c.from_residual.ensures.1 in
    rw (p.1, p.2) (tells_first _ _ _ _ next c.in_err-home.ensures.first)

pub loop-at-preserved : goal.loop-at-preserved
loop-at-preserved c =
    let g = c.args.graph.now in
    let next = c.loop-at.invariant.left ∙ cell_next c.args.types.now g g.cells c.loop-at.at (cell_of c.in-Some.cell.now) c.in-Some.ensures.some in
    let values = map (λ (x : Referent). x.val) g.cells in
    let there : slice_get values c.loop-at.at ≡ Some (tree_of c.in-Some.cell.now.val) =
    slice_get-map (λ (x : Referent). x.val) g.cells c.loop-at.at ∙ ap (option_map (λ (x : Referent). x.val)) c.in-Some.ensures.some in
    record {
      left = later_left _ _ _ next c.in_ok-home.ensures.none;
      machine = c.loop-at.invariant.machine ∙ machine_next values c.loop-at.at (tree_of c.in-Some.cell.now.val) there c.in_ok-home.ensures.machine;
    }

pub returns-clause-none : goal.returns-clause-none
returns-clause-none c =
    let g = c.args.graph.now in
    c.loop-at.invariant.left ∙ ap (first_in_cells c.args.types.now g (c.loop-at.at + 1)) (drop-past g.cells c.loop-at.at (omega arith))

pub returns-clause-machine : goal.returns-clause-machine
returns-clause-machine c =
    let values = map (λ (x : Referent). x.val) c.args.graph.now.cells in
    c.loop-at.invariant.machine
    ∙ machine_end values c.loop-at.at (omega (arith, length-map c.args.graph.now.cells (λ (x : Referent). x.val)))
