use Rattle.text_grammar.proofs.WorkedTexts.{handle_read}
use Rattle.text_grammar.proofs.examples.text_of_a_context_handle.Goals as goal

pub returns : goal.returns
returns c = handle_read
