use Rattle.std.proofs.Common.{refl, subst}
use Rattle.std.proofs.lemmas.Result.{IfOk-weaker}
use Rattle.nd_value.specs.declared.item.Home.{Home}
use Rattle.nd_value.specs.Fitting.{setting_of}
use Rattle.text_grammar.specs.Paths.{IsPath}
use Rattle.text_printer.proofs.paths.append_path.Goals as goal

pub returns-in-Root : goal.returns-in-Root
returns-in-Root c =
    IfOk-weaker c.append_root_path.result _ _
    (λ x root empty o there p h.
    root empty o there p (subst (λ (k : Home). IsPath (setting_of c.args.interface.now o c.args.side) c.args.graph.now k c.args.node p) c.in-Root.is h))
    c.append_root_path.ensures

pub returns-in-Cell : goal.returns-in-Cell
returns-in-Cell c =
    IfOk-weaker c.append_cell_path.result _ _
    (λ x cell empty o there p h.
    cell empty (setting_of c.args.interface.now o c.args.side) refl p
    (subst (λ (k : Home). IsPath (setting_of c.args.interface.now o c.args.side) c.args.graph.now k c.args.node p) c.in-Cell.is h))
    c.append_cell_path.ensures
