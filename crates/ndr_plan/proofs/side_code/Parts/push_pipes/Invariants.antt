use Rattle.std.proofs.Common.{map}
use Rattle.nd_types.specs.Roots.{root_value}
use Rattle.ndr_plan.specs.Parts.{HasRuns, pipe_run, pipe_line}
use Rattle.ndr_plan.proofs.side_code.Parts.push_pipes.Given as goal

-- the runs of the roots that were given are written
abbrev pub invariant-loop-root : goal.invariant-loop-root
invariant-loop-root l = HasRuns l.initial.self l.self (pipe_run l.side.interface.now.types) (pipe_line l.side.op l.side.operation.now l.side.side) (map root_value l.yielded)
