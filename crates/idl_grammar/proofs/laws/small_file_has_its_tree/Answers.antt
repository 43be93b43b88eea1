use Rattle.idl_grammar.proofs.FileExamples as laws
use Rattle.idl_grammar.proofs.laws.small_file_has_its_tree.Goals as goal

pub returns : goal.returns
returns c = laws.small_answers
