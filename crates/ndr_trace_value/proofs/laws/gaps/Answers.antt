use Rattle.ndr_trace_value.proofs.Gaps.{empty_gap, gap_item}
use Rattle.ndr_trace_value.proofs.laws.gaps.Goals as goal

pub returns-clause-empty : goal.returns-clause-empty
returns-clause-empty c = empty_gap

pub returns-clause-item : goal.returns-clause-item
returns-clause-item c = gap_item
