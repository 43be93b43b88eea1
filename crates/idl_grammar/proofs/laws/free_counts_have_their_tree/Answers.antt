use Rattle.idl_grammar.proofs.FileExamples as laws
use Rattle.idl_grammar.proofs.laws.free_counts_have_their_tree.Goals as goal

pub returns : goal.returns
returns c = record { windows = laws.free_answers; c706 = laws.free_name_answers }
