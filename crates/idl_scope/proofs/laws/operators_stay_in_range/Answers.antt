use Rattle.idl_scope.proofs.Ranges.{binary_in_range}
use Rattle.idl_scope.proofs.laws.operators_stay_in_range.Goals as goal

pub returns-clause-binary : goal.returns-clause-binary
returns-clause-binary c = binary_in_range
