-- Answers that a line of output holds.
use Rattle.std.specs.Prelude.{ℕ, ◌≤◌}
use Rattle.ctx_session.specs.declared.answer.Answer.{Answer}
use Rattle.ctx_session.specs.declared.answer.Answer.TheVariants.{Done, NoneFresh, Refused, Unknown, Failed, Ended}

-- a count is of no more than can be live
abbrev pub IsShort : Answer → Type 0
IsShort Done = Unit {0}
IsShort NoneFresh = Unit {0}
IsShort (Refused fault) = Unit {0}
IsShort Unknown = Unit {0}
IsShort Failed = Unit {0}
IsShort (Ended count) = count ≤ 4096
