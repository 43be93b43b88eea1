use Rattle.command_sample.proofs.Sums as sample
use Rattle.command_sample.proofs.laws.sample_values.Goals as goal

pub returns-clause-cells : goal.returns-clause-cells
returns-clause-cells c = sample.cells_are

pub returns-clause-sum : goal.returns-clause-sum
returns-clause-sum c = sample.sum_is
