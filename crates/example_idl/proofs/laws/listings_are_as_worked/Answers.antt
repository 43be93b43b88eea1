use Rattle.example_idl.proofs.Listed.{worked}
use Rattle.example_idl.proofs.laws.listings_are_as_worked.Goals as goal

pub returns-clause-sum : goal.returns-clause-sum
returns-clause-sum c = worked.0

pub returns-clause-directory : goal.returns-clause-directory
returns-clause-directory c = worked.1

pub returns-clause-forms : goal.returns-clause-forms
returns-clause-forms c = worked.2
