use Rattle.std.proofs.Common.{◌≡◌, ◌-◌}
use Rattle.ndr_trace_value.specs.LastMembers.{variable_within}
use Rattle.ndr_trace_value.proofs.counted.variable_within.Given as goal

-- what the levels that are left come to is what all come to
abbrev pub invariant-loop-level : goal.invariant-loop-level
invariant-loop-level l = variable_within l.depth l.types l.fn.of.0 l.path ≡ variable_within (l.depth - l._level) l.types l.at.0 l.text
