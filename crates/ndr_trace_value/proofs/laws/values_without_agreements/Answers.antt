use Rattle.ndr_trace_value.proofs.Untested.{untested_values}
use Rattle.ndr_trace_value.proofs.laws.values_without_agreements.Goals as goal

pub returns : goal.returns
returns c = untested_values
