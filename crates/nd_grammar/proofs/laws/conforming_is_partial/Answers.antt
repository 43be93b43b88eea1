use Rattle.nd_grammar.proofs.ConformingPartial as laws
use Rattle.nd_grammar.proofs.laws.conforming_is_partial.Goals as goal

pub returns : goal.returns
returns c = laws.conforming_is_partial
