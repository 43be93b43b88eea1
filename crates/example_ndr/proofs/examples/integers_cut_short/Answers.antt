use Rattle.example_ndr.proofs.WorkedPlain.{cut_number, cut_gap}
use Rattle.example_ndr.proofs.examples.integers_cut_short.Goals as goal

pub returns-clause-number : goal.returns-clause-number
returns-clause-number c = cut_number

pub returns-clause-gap : goal.returns-clause-gap
returns-clause-gap c = cut_gap
