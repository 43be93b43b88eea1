use Rattle.nd_misfits.proofs.node.cell_misfit.Goals as goal

pub returns-in-Some : goal.returns-in-Some
returns-in-Some c table = rw c.in-Some.is (c.referent.ensures table c.args.class)
