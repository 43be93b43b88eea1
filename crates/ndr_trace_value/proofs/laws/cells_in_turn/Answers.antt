use Rattle.ndr_trace_value.proofs.Numbers.{named_in_turn}
use Rattle.ndr_trace_value.proofs.laws.cells_in_turn.Goals as goal

pub returns : goal.returns
returns c = named_in_turn
