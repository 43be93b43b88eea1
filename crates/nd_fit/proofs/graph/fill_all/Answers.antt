use Rattle.std.proofs.Common.{◌<◌, ◌^◌, length, subst}
use Rattle.nd_value.specs.Seen.{cell_of}
use Rattle.nd_value.specs.Tree.{Referent, more, none, node_count}
use Rattle.nd_flat.specs.Keepable.{AreKeepable}
use Rattle.nd_fit.proofs.Homes.{cell_there, cells_on, all_at}
use Rattle.nd_fit.proofs.graph.fill_all.Goals as goal

pub fill_one-requires-clause-there : goal.fill_one-requires-clause-there
fill_one-requires-clause-there c =
    let l : c.loop-at.at < length c.args.cells.now = subst (λ n. c.loop-at.at < n) c.len-at-end.ensures c.loop-at-test.true in
    cell_there c.args.cells.now c.loop-at.at c.args.builder.now c.loop-at.builder l c.loop-at.invariant

pub fill_one-requires-clause-few : goal.fill_one-requires-clause-few
fill_one-requires-clause-few c =
    all_at (λ (x : Referent). node_count (more x.val none) < 2 ^ 32) c.args.cells.now c.loop-at.at (cell_of c.in-Some.cell.now) c.in-Some.ensures.some c.requires.few_nodes

pub fill_one-requires-clause-keepable : goal.fill_one-requires-clause-keepable
fill_one-requires-clause-keepable c =
    all_at (λ (x : Referent). AreKeepable (more x.val none)) c.args.cells.now c.loop-at.at (cell_of c.in-Some.cell.now) c.in-Some.ensures.some c.requires.keepable

pub loop-at-preserved : goal.loop-at-preserved
loop-at-preserved c =
    cells_on c.args.cells.now c.loop-at.at (cell_of c.in-Some.cell.now) c.args.builder.now c.loop-at.builder c.fill_one.new.builder c.in-Some.ensures.some
    c.loop-at.invariant c.in_ok-fill_one.ensures
