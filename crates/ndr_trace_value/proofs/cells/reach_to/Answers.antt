use Rattle.std.proofs.Common.{◌∙◌, ap}
use Rattle.ndr_trace_value.specs.Naming.{stands_at}
use Rattle.ndr_trace_value.proofs.NamedCells.{one_more_room}
use Rattle.ndr_trace_value.proofs.cells.reach_to.Goals as goal

pub loop-stands-preserved : goal.loop-stands-preserved
loop-stands-preserved c d = ap (λ xs. stands_at xs d) c.in-Ok.ensures.items ∙ one_more_room c.loop-stands.stands.items d ∙ c.loop-stands.invariant d
