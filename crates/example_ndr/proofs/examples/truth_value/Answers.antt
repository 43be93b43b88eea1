use Rattle.example_ndr.proofs.WorkedPlain.{any_truth, truth_written}
use Rattle.example_ndr.proofs.examples.truth_value.Goals as goal

pub returns-clause-any : goal.returns-clause-any
returns-clause-any c = any_truth

pub returns-clause-written : goal.returns-clause-written
returns-clause-written c = truth_written
