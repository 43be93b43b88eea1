use Rattle.text_grammar.proofs.WorkedTexts.{numbers_read}
use Rattle.text_grammar.proofs.WorkedPrinted.{numbers_printed}
use Rattle.text_grammar.proofs.examples.text_of_numbers.Goals as goal

pub returns-clause-read : goal.returns-clause-read
returns-clause-read c = numbers_read

pub returns-clause-printed : goal.returns-clause-printed
returns-clause-printed c = numbers_printed
