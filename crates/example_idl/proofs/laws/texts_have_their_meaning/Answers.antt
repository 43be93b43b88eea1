use Rattle.example_idl.proofs.Judged as laws
use Rattle.example_idl.proofs.laws.texts_have_their_meaning.Goals as goal

pub returns-clause-sum : goal.returns-clause-sum
returns-clause-sum c = laws.sum_means

pub returns-clause-directory : goal.returns-clause-directory
returns-clause-directory c = laws.directory_means
