use Rattle.ndr_decoder_laws.proofs.steps.PlanRuns.{planned}
use Rattle.ndr_decoder_laws.proofs.laws.steps.plans_have_their_runs.Goals as goal

pub returns : goal.returns
returns c = planned
