use Rattle.std.proofs.Common.{◌≡◌, drop}
use Rattle.nd_flat.specs.Records.{end_from}
use Rattle.nd_flat.proofs.records.end_of.Given as goal

abbrev pub invariant-loop-prim : goal.invariant-loop-prim
invariant-loop-prim l = end_from l.end (drop l.prim-index l.prims) ≡ end_from 0 l.prims
