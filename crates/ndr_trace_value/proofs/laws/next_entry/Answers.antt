use Rattle.ndr_trace_value.proofs.Due.{next_due, never_unread}
use Rattle.ndr_trace_value.proofs.laws.next_entry.Goals as goal

pub returns-clause-due : goal.returns-clause-due
returns-clause-due c = next_due

pub returns-clause-read : goal.returns-clause-read
returns-clause-read c = never_unread
