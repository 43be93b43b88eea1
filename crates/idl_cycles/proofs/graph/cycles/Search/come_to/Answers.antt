use Rattle.std.proofs.Common.{◌≡◌, ◌<◌, length, false, refl, arith, rules}
use Rattle.std.proofs.lemmas.Grind.{common_steps}
use Rattle.idl_cycles.specs.GraphCycles.{is_marked}
use Rattle.idl_cycles.proofs.GraphSearching.{comes_first}
use Rattle.idl_cycles.proofs.graph.cycles.Search.come_to.Goals as goal

pub returns : goal.returns
returns c =
    let h : c.args.node < length c.args.self.now.seen.items = search rules in
    let n : is_marked c.args.number c.args.self.now.seen.items c.args.node ≡ false = grind (arith, common_steps) in
    comes_first c.args.number c.args.node c.args.self.now.seen.items c.args.self.now.queue.items _ _ h n refl c.in-Ok.ensures.items
