use Rattle.value_text.proofs.Lines.{text_reads}
use Rattle.value_text.proofs.laws.text_is_read.Goals as goal

pub returns : goal.returns
returns c = λ v w g side r short h. text_reads w side v g r short h
