use Rattle.value_text.proofs.PrintedReads.{printed_reads}
use Rattle.value_text.proofs.laws.reading_after_printing.Goals as goal

pub returns : goal.returns
returns c = printed_reads
