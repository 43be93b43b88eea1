use Rattle.std.proofs.Common.{◌≡◌, ◌-◌}
use Rattle.ndr_trace_value.specs.LastMembers.{last_within}
use Rattle.ndr_trace_value.proofs.counted.append_within.Given as goal

-- what the levels that are left come to is what all come to
abbrev pub invariant-loop-level : goal.invariant-loop-level
invariant-loop-level l = last_within l.depth l.types l.fn.of.0 l.initial.text ≡ last_within (l.depth - l._level) l.types l.at.0 l.text
