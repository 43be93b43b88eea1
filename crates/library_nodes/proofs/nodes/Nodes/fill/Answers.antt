use Rattle.std.proofs.Common.{refl}
use Rattle.library_nodes.proofs.AddedHomes.{listed}
use Rattle.library_nodes.proofs.nodes.Nodes.fill.Goals as goal

pub returns : goal.returns
returns c =
    listed c.args.graph.now _ c.clear.new.self c.lay_roots.new.list c.clear-2.new.self.items c.lay_roots.new.starts.items c.lay_cells.new.starts.items c.clear.ensures.nodes
    c.clear-2.ensures.items c.in_ok-lay_roots.ensures c.in_ok-lay_cells.ensures refl c.root_count-self.ensures
