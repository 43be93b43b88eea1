use Rattle.nd_misfits.proofs.node.pointer.Goals as goal

pub returns-in-Ptr : goal.returns-in-Ptr
returns-in-Ptr c table = rw c.in-Ptr.is (c.cell_misfit.ensures table)
