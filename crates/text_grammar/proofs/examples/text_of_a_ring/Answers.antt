use Rattle.text_grammar.proofs.WorkedTexts.{ring_read}
use Rattle.text_grammar.proofs.WorkedPrinted.{ring_printed}
use Rattle.text_grammar.proofs.examples.text_of_a_ring.Goals as goal

pub returns-clause-read : goal.returns-clause-read
returns-clause-read c = ring_read

pub returns-clause-printed : goal.returns-clause-printed
returns-clause-printed c = ring_printed
