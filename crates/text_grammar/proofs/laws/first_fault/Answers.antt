use Rattle.text_grammar.proofs.Stated.{first_fault}
use Rattle.text_grammar.proofs.laws.first_fault.Goals as goal

pub returns : goal.returns
returns c = first_fault
