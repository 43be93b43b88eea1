use Rattle.value_text.proofs.SameTexts.{text_alone, text_exists}
use Rattle.value_text.proofs.laws.one_text.Goals as goal

pub returns-clause-exists : goal.returns-clause-exists
returns-clause-exists c = text_exists

pub returns-clause-alone : goal.returns-clause-alone
returns-clause-alone c = text_alone
