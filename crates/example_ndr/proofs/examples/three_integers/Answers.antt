use Rattle.example_ndr.proofs.WorkedPlain.{three_integers, three_integers_big, three_integers_written}
use Rattle.example_ndr.proofs.examples.three_integers.Goals as goal

pub returns-clause-little : goal.returns-clause-little
returns-clause-little c = three_integers

pub returns-clause-big : goal.returns-clause-big
returns-clause-big c = three_integers_big

pub returns-clause-written : goal.returns-clause-written
returns-clause-written c = three_integers_written
