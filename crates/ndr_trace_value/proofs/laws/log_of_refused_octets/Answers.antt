use Rattle.ndr_trace_value.proofs.Due.{bad_stops}
use Rattle.ndr_trace_value.proofs.laws.log_of_refused_octets.Goals as goal

pub returns : goal.returns
returns c = bad_stops
