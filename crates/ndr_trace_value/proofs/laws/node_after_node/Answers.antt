use Rattle.ndr_trace_value.proofs.NextNodes.{after_own}
use Rattle.ndr_trace_value.proofs.laws.node_after_node.Goals as goal

pub returns : goal.returns
returns c = after_own
