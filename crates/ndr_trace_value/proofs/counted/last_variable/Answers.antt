use Rattle.ndr_trace_value.specs.LastMembers.{last_variable}
use Rattle.ndr_trace_value.proofs.counted.last_variable.Goals as goal

pub returns : goal.returns
unfolding last_variable
returns c = c.in_ok-variable.ensures
