use Rattle.ndr_decoder_laws.proofs.runs.Safe.{safe_in_home}
use Rattle.ndr_decoder_laws.proofs.laws.runs.runs_are_safe.Goals as goal

pub returns : goal.returns
returns c = safe_in_home
