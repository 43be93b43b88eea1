use Rattle.std.proofs.Common.{◌<◌, take, length, map, suc, subst}
use Rattle.nd_value.specs.Setting.{cell_at}
use Rattle.nd_value.specs.Tree.{Trees, Referent, flat}
use Rattle.library_nodes.specs.Laying.{Adds}
use Rattle.library_nodes.proofs.AddedHomes.{homes_none, homes_more, cell_next}
use Rattle.library_nodes.proofs.laying.lay_cells.Goals as goal

pub loop-at-init : goal.loop-at-init
loop-at-init c = homes_none c.args.list.now c.args.starts.now.items

pub lay_home-requires : goal.lay_home-requires
lay_home-requires c = let g = c.args.graph.now in (cell_at g (suc c.loop-at.at), c.cell_plain_walk.ensures)

pub loop-at-preserved : goal.loop-at-preserved
loop-at-preserved c =
    let g = c.args.graph.now in
    let l : c.loop-at.at < length g.cells = subst (λ n. c.loop-at.at < n) c.cell_count-at-end.ensures c.loop-at-test.true in
    homes_more (map (λ (x : Referent). x.val) (take c.loop-at.at g.cells)) _ (cell_at g (suc c.loop-at.at)) c.args.list.now c.loop-at.list c.lay_home.new.list
    c.args.starts.now.items c.loop-at.starts.items c.lay_home.new.starts.items
    (cell_next g c.loop-at.at l) c.loop-at.invariant c.in_ok-lay_home.ensures.starts
    (subst (λ (w : Trees). Adds (flat w) c.loop-at.list c.lay_home.new.list) c.cell_plain_walk.ensures c.in_ok-lay_home.ensures.adds)
