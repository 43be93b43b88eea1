use Rattle.ndr_trace_value.specs.LastMembers.{last_path}
use Rattle.ndr_trace_value.proofs.counted.append_last.Goals as goal

pub returns : goal.returns
unfolding last_path
returns c = c.in_ok-append_within.ensures
