use Rattle.text_grammar.proofs.WorkedTexts.{directory_read, directory_read_one}
use Rattle.text_grammar.proofs.WorkedPrinted.{directory_printed}
use Rattle.text_grammar.proofs.examples.text_of_a_directory.Goals as goal

pub returns-clause-read : goal.returns-clause-read
returns-clause-read c = directory_read

pub returns-clause-printed : goal.returns-clause-printed
returns-clause-printed c = directory_printed

pub returns-clause-first : goal.returns-clause-first
returns-clause-first c = directory_read_one
