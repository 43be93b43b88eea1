use Rattle.idl_grammar.specs.Text.{symbol_of}
use Rattle.idl_tokens.proofs.lexemes.symbol_of.Goals as goal

pub returns-in-Word : goal.returns-in-Word
unfolding symbol_of
returns-in-Word c = rw c.in-Word.is c.symbol_of_word.ensures
