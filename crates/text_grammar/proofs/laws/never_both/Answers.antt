use Rattle.text_grammar.proofs.OneText.{never_both}
use Rattle.text_grammar.proofs.laws.never_both.Goals as goal

pub returns : goal.returns
returns c = never_both
