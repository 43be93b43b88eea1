use Rattle.command_compile.proofs.Ends.{each_main}
use Rattle.command_compile.proofs.laws.names_are_resolved.Goals as goal

pub returns : goal.returns
returns c = each_main
