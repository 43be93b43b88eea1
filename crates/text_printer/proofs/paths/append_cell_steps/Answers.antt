use Rattle.std.proofs.Common.{Option, ap, option_map, subst}
use Rattle.std.proofs.lemmas.Result.{IfOk-weaker}
use Rattle.nd_value.specs.Seen.{cell_of}
use Rattle.nd_value.specs.Tree.{Referent}
use Rattle.text_printer.specs.Steps.{HasCellPath}
use Rattle.text_printer.proofs.HomePaths.{cell_path, no_cell_path}
use Rattle.text_printer.proofs.paths.append_cell_steps.Goals as goal

pub returns-in-Some : goal.returns-in-Some
returns-in-Some c =
    IfOk-weaker c.append_steps.result _ _
    (λ x steps p h.
    steps p
    (cell_path c.args.types.now c.args.text.now (cell_of c.in-Some.cell.now) c.args.node p
    (subst (λ (o : Option Referent). HasCellPath c.args.types.now c.args.text.now o c.args.node p) (ap (option_map (λ k. cell_of k.now)) c.in-Some.is) h)))
    c.append_steps.ensures

pub returns-in-None : goal.returns-in-None
returns-in-None c p h =
    no_cell_path c.args.types.now c.args.text.now c.args.node p
    (subst (λ (o : Option Referent). HasCellPath c.args.types.now c.args.text.now o c.args.node p) (ap (option_map (λ k. cell_of k.now)) c.in-None.is) h)
