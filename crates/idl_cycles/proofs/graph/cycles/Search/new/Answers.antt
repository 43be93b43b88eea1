use Rattle.std.proofs.Common.{◌≡◌, ℕ, length, replicate, rules}
use Rattle.idl_cycles.proofs.GraphSearching.{ready_none}
use Rattle.idl_cycles.proofs.graph.cycles.Search.new.Goals as goal

pub returns : goal.returns
returns c =
    let e : c.in_ok-seen.seen.items ≡ replicate {A = ℕ} (length c.args.graph.now) 0 = search rules in
    ready_none c.args.graph.now c.in_ok-seen.seen.items e
