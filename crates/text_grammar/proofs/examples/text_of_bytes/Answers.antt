use Rattle.text_grammar.proofs.WorkedTexts.{bytes_read}
use Rattle.text_grammar.proofs.examples.text_of_bytes.Goals as goal

pub returns : goal.returns
returns c = bytes_read
