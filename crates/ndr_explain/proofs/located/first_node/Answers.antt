use Rattle.std.proofs.Common.{sym, subst}
use Rattle.nd_value.specs.declared.item.Home.{Home}
use Rattle.ndr_explain.specs.Cursors.{IsBegun}
use Rattle.ndr_explain.proofs.located.first_node.Goals as goal

pub returns-in-Root-clause-is : goal.returns-in-Root-clause-is
returns-in-Root-clause-is c w s =
    subst (λ (h : Home). IsBegun w c.args.fit.now.graph h c.first_of_root.result) (sym c.in-Root.is) (c.first_of_root.ensures.is w s)

pub returns-in-Cell-clause-is : goal.returns-in-Cell-clause-is
returns-in-Cell-clause-is c w s =
    subst (λ (h : Home). IsBegun w c.args.fit.now.graph h c.first_of_cell.result) (sym c.in-Cell.is)
    (c.first_of_cell.ensures.is c.args.interface.now c.requires.tied w s)
