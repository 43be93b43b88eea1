use Rattle.text_grammar.proofs.OneText.{one_cut as one_token}
use Rattle.text_grammar.proofs.laws.one_token.Goals as goal

pub returns : goal.returns
returns c = one_token
