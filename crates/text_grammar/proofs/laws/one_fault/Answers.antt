use Rattle.text_grammar.proofs.Stated.{one_fault}
use Rattle.text_grammar.proofs.laws.one_fault.Goals as goal

pub returns : goal.returns
returns c = one_fault
