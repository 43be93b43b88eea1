use Rattle.nd_value.specs.Seen.{cell_of}
use Rattle.std.proofs.Common.{refl}
use Rattle.nd_fit.proofs.Homes.{reserved_on}
use Rattle.nd_fit.proofs.graph.reserve_all.Goals as goal

pub loop-at-preserved : goal.loop-at-preserved
loop-at-preserved g c =
    reserved_on c.args.cells.now c.loop-at.at (cell_of c.in-Some.cell.now) c.in-Some.cell.now.of.0 c.args.builder.now c.loop-at.builder c.reserve.new.self
    c.in-Some.ensures.some refl c.loop-at.invariant c.in_ok-reserve.ensures.ok
