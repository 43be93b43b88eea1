use Rattle.ndr_prim.proofs.Contexts as contexts
use Rattle.ndr_prim.proofs.laws.context_after_read.Goals as goal

pub returns : goal.returns
returns c = contexts.context_after_read
