use Rattle.std.proofs.Common.{◌∙◌, refl, ap, map}
use Rattle.std.proofs.lemmas.Result.{err_from_is_err_and, IfErr-weaker, on_ok_weaker}
use Rattle.nd_value.specs.Conforms.{or_later}
use Rattle.nd_value.proofs.LocalPass.{tells_first}
use Rattle.nd_misfits.specs.HomeList.{home_tree, cell_homes}
use Rattle.nd_misfits.specs.Disagreeing.{disagreeing_homes}
use Rattle.nd_misfits.proofs.Sharing.{tells_same}
use Rattle.nd_misfits.proofs.disagreeing.among_all.Goals as goal

pub returns-in_err-among-clause-first : goal.returns-in_err-among-clause-first
returns-in_err-among-clause-first c =
    let p = err_from_is_err_and c.from_residual.result c.from_residual.ensures.1 in
    let g = c.args.graph.now in
    rw (p.1, p.2)
    (λ w table op are.
    tells_first _ (disagreeing_homes w g (map home_tree c.args.roots.now)) (disagreeing_homes w g (cell_homes 1 g.cells)) _ refl
    (c.in_err-among.ensures.first w table op are))

pub returns-clause-none : goal.returns-clause-none
returns-clause-none c =
    on_ok_weaker c.among_cells.result
    (λ none w table op are.
    ap (λ o. or_later o (disagreeing_homes w c.args.graph.now (cell_homes 1 c.args.graph.now.cells))) (c.in_ok-among.ensures.none w table op are) ∙ none w table op are)
    c.among_cells.ensures.none

pub returns-clause-first : goal.returns-clause-first
returns-clause-first c =
    IfErr-weaker c.among_cells.result _ _
    (λ e told w table op are.
    tells_same _ _ e
    (ap (λ o. or_later o (disagreeing_homes w c.args.graph.now (cell_homes 1 c.args.graph.now.cells))) (c.in_ok-among.ensures.none w table op are))
    (told w table op are))
    c.among_cells.ensures.first
