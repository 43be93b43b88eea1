use Rattle.std.proofs.Common.{◌≡◌, drop}
use Rattle.nd_flat.specs.Records.{widest_from}
use Rattle.nd_flat.proofs.records.widest_of.Given as goal

abbrev pub invariant-loop-prim : goal.invariant-loop-prim
invariant-loop-prim l = widest_from l.widest (drop l.prim-index l.prims) ≡ widest_from 1 l.prims
