use Rattle.idl_grammar.proofs.Apart as laws
use Rattle.idl_grammar.proofs.laws.windows_words_are_apart.Goals as goal

pub returns : goal.returns
returns c = record { none = laws.none_in_c706; same = laws.same_in_both }
