use Rattle.nd_types.proofs.interface.Interface.operation.Goals as goal

pub returns-in-Some : goal.returns-in-Some
returns-in-Some c = simp (c.as_slice.ensures, c.as_bytes.ensures.value) at c.in-Some.ensures

pub returns-in-None : goal.returns-in-None
returns-in-None c = simp (c.as_slice.ensures, c.as_bytes.ensures.value) at c.in-None.ensures
