use Rattle.std.proofs.Common.{◌≡◌, ◌<◌, ◌-◌, suc, length, ap, ◌∙◌, arith}
use Rattle.std.specs.List.{slice_get}
use Rattle.nd_value.specs.declared.value.Graph.{Graph}
use Rattle.nd_value.specs.Setting.{cell_at}
use Rattle.nd_value.specs.Tree.{more, none}
use Rattle.nd_flat.specs.Building.{referent_type}
use Rattle.ndr_explain.proofs.HomeNodes.{fit_is, cell_zero, cell_past, first_cell}
use Rattle.ndr_explain.proofs.located.first_of_cell.Goals as goal
use Rattle.ndr_explain.proofs.located.first_of_cell.Goals.{then-cell-eq0-via-then-cell-eq0, then-cell-eq0-via-else-cell-eq0+then-cell-cell_count}

pub returns-then-cell-eq0-clause-is : goal.returns-then-cell-eq0-clause-is
returns-then-cell-eq0-clause-is c i tied v s =
    let g = c.args.fit.now.graph in
    elim c.then-cell-eq0.branch [
      | then-cell-eq0-via-then-cell-eq0 w ↦ cell_zero v g c.args.cell (let e = w.if-cell-eq0.true in omega (arith, e))
      | then-cell-eq0-via-else-cell-eq0+then-cell-cell_count w ↦
          cell_past v g c.args.cell
          (let e = w.if-cell-cell_count.true in
          let k = w.cell_count.ensures in
          let m = ap (λ (h : Graph). length h.cells) c.flat-graph.ensures.graph in
          omega (arith, e, k, m))
    ]

pub returns-clause-is : goal.returns-clause-is
returns-clause-is c i tied v s =
    let f = c.args.fit.now in
    let g = f.graph in
    let n = c.args.cell.0 - 1 in
    let same = c.flat-graph.ensures.graph in
    let some : c.args.cell.0 ≡ suc n = omega arith in
    let within : n < length g.cells =
    (let e = c.if-cell-cell_count.false in
    let k = c.cell_count.ensures in
    let m = ap (λ (h : Graph). length h.cells) same in
    omega (arith, e, k, m, some)) in
    first_cell v g c.args.cell n c.cell_type.result.0 c.cell_walk.result c.begin.result (fit_is i f v s tied c.flat-graph.ensures.conforms) some within
    (λ x there. c.cell_type.ensures ∙ ap (λ (h : Graph). referent_type (slice_get h.cells n)) same ∙ ap referent_type there)
    (c.cell_walk.ensures ∙ ap (λ (h : Graph). more (cell_at h (suc n)) none) same) c.begin.ensures.is
