use Rattle.std.proofs.Common.{ap}
use Rattle.library_nodes.specs.declared.fault.BuildFault.TheVariants.{Refused}
use Rattle.library_nodes.proofs.building.held.Goals as goal

pub returns-in-Err-clause-err : goal.returns-in-Err-clause-err
returns-in-Err-clause-err c = ap Refused c.in-Err.ensures.err
