use Rattle.command_sample.proofs.Lengths as sample
use Rattle.command_sample.proofs.laws.sample_length.Goals as goal

pub returns : goal.returns
returns c = sample.length_is
