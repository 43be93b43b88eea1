use Rattle.idl_grammar.proofs.Formed.{lexemes_formed}
use Rattle.idl_grammar.proofs.laws.words_are_identifiers.Goals as goal

pub returns : goal.returns
returns c = lexemes_formed
