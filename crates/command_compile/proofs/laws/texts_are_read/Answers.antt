use Rattle.command_compile.proofs.Read.{each_read}
use Rattle.command_compile.proofs.laws.texts_are_read.Goals as goal

pub returns : goal.returns
returns c = each_read
