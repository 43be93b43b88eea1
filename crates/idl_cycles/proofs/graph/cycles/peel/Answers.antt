use Rattle.std.proofs.Common.{◌≡◌, Bool, false, List, replicate, sym, subst, rules}
use Rattle.idl_cycles.specs.GraphCycles.{ArePeeled}
use Rattle.idl_cycles.proofs.GraphPeeling.{peeled_none}
use Rattle.idl_cycles.proofs.graph.cycles.peel.Goals as goal

pub loop-init : goal.loop-init
loop-init c =
    let e : c.in_ok-peeled.peeled.items ≡ replicate c.len.result false = search rules in
    let P : List Bool → Type 0 = λ xs. ArePeeled c.args.graph.now xs in
    subst P (sym e) (peeled_none c.args.graph.now c.len.result c.len.ensures)
