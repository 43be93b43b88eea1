use Rattle.std.proofs.Common.{◌≡◌, ℕ, length, subst, arith}
use Rattle.idl_cycles.specs.Graph.{IsLeast}
use Rattle.idl_cycles.proofs.graph.cycles.least_key.Goals as goal

pub returns : goal.returns
returns c =
    let e : c.loop-node.node ≡ length c.args.keys.now = omega arith in
    let P : ℕ → Type 0 = λ n. IsLeast c.args.graph.now c.args.keys.now n c.loop-node.least in
    subst P e c.loop-node.invariant.1
