use Rattle.std.proofs.Common.{◌≡◌, drop}
use Rattle.ndr_trace_value.specs.Attributes.{first_of}
use Rattle.ndr_trace_value.proofs.search.attribute.Given as goal

-- the first attribute from here on is the first of all
abbrev pub invariant-loop-at : goal.invariant-loop-at
invariant-loop-at l = first_of l.kind l.vars ≡ first_of l.kind (drop l.at l.vars)
