use Rattle.command_sample.proofs.Conforming as sample
use Rattle.command_sample.proofs.laws.sample_conforms.Goals as goal

pub returns : goal.returns
returns c = sample.conforms
