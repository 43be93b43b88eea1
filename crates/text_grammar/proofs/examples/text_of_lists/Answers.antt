use Rattle.text_grammar.proofs.WorkedTexts.{lists_read}
use Rattle.text_grammar.proofs.examples.text_of_lists.Goals as goal

pub returns : goal.returns
returns c = lists_read
