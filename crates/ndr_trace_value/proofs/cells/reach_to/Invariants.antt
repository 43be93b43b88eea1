use Rattle.std.proofs.Common.{◌≡◌, ◌-◌, ◌+◌, ℕ, length}
use Rattle.ndr_trace_value.specs.Naming.{stands_at}
use Rattle.ndr_trace_value.proofs.cells.reach_to.Given as goal

abbrev pub invariant-loop-stands : goal.invariant-loop-stands
invariant-loop-stands l = (c : ℕ) → stands_at l.stands.items c ≡ stands_at l.initial.stands.items c

abbrev pub decreases-loop-stands : goal.decreases-loop-stands
decreases-loop-stands l = l.fn.at + 1 - length l.stands.items
