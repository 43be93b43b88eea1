use Rattle.example_ndr.proofs.WorkedPlain.{handle_in_little, handle_in_big}
use Rattle.example_ndr.proofs.examples.context_handle.Goals as goal

pub returns-clause-little : goal.returns-clause-little
returns-clause-little c = handle_in_little

pub returns-clause-big : goal.returns-clause-big
returns-clause-big c = handle_in_big
