use Rattle.idl_grammar.proofs.RealTokens as laws
use Rattle.idl_grammar.proofs.laws.tokens_are_no_end.Goals as goal

pub returns : goal.returns
returns c = laws.lexemes_real
