use Rattle.std.proofs.Common.{map}
use Rattle.nd_types.specs.Roots.{root_value}
use Rattle.ndr_plan.specs.Parts.{HasRuns, value_run, value_line}
use Rattle.ndr_plan.proofs.side_code.Parts.push_roots.Given as goal

-- the runs of the roots that were given are written
abbrev pub invariant-loop-root : goal.invariant-loop-root
invariant-loop-root l = HasRuns l.initial.self l.self (value_run l.side.interface.now.types) (value_line l.side.op l.side.operation.now l.side.side) (map root_value l.yielded)
