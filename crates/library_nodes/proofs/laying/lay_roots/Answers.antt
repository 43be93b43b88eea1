use Rattle.std.proofs.Common.{◌<◌, take, length, subst}
use Rattle.nd_value.specs.Setting.{root_at}
use Rattle.nd_value.specs.Tree.{Trees, flat}
use Rattle.library_nodes.specs.Laying.{Adds}
use Rattle.library_nodes.proofs.AddedHomes.{homes_none, homes_more, root_next}
use Rattle.library_nodes.proofs.laying.lay_roots.Goals as goal

pub loop-at-init : goal.loop-at-init
loop-at-init c = homes_none c.args.list.now c.args.starts.now.items

pub lay_home-requires : goal.lay_home-requires
lay_home-requires c = let g = c.args.graph.now in (root_at g c.loop-at.at, c.root_plain_walk.ensures)

pub loop-at-preserved : goal.loop-at-preserved
loop-at-preserved c =
    let g = c.args.graph.now in
    let l : c.loop-at.at < length g.roots = subst (λ n. c.loop-at.at < n) c.root_count-at-end.ensures c.loop-at-test.true in
    homes_more (take c.loop-at.at g.roots) _ (root_at g c.loop-at.at) c.args.list.now c.loop-at.list c.lay_home.new.list c.args.starts.now.items c.loop-at.starts.items c.lay_home.new.starts.items
    (root_next g c.loop-at.at l) c.loop-at.invariant c.in_ok-lay_home.ensures.starts
    (subst (λ (w : Trees). Adds (flat w) c.loop-at.list c.lay_home.new.list) c.root_plain_walk.ensures c.in_ok-lay_home.ensures.adds)
