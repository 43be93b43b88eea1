use Rattle.ndr_trace_value.proofs.Steps.{ended, skipped, took}
use Rattle.ndr_trace_value.proofs.laws.one_entry.Goals as goal

pub returns-clause-took : goal.returns-clause-took
returns-clause-took c = took

pub returns-clause-ended : goal.returns-clause-ended
returns-clause-ended c = ended

pub returns-clause-skipped : goal.returns-clause-skipped
returns-clause-skipped c = skipped
