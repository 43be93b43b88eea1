use Rattle.std.proofs.Common.{ap, ◌∙◌, ◌<◌, refl, subst, length}
use Rattle.nd_value.specs.Tree.{Trees, more, none}
use Rattle.nd_value.specs.Setting.{root_at}
use Rattle.nd_value.specs.Names.{cells_in}
use Rattle.nd_fit.specs.Reach.{Search, searched}
use Rattle.nd_fit.proofs.Searches.{root_left, note_length}
use Rattle.nd_fit.proofs.reach.from_roots.Goals as goal

pub loop-at-preserved : goal.loop-at-preserved
loop-at-preserved c =
    let g = c.args.graph.now in
    let s : Search = searched c.loop-at.marks.items c.loop-at.queue.items in
    let r : Search = searched c.note_home.new.marks.items c.note_home.new.queue.items in
    let root : Trees = more (root_at g c.loop-at.at) none in
    let l : c.loop-at.at < length g.roots = subst (λ n. c.loop-at.at < n) c.root_count-at-end.ensures c.loop-at-test.true in
    record {
      marks = ap (λ (x : Search). length x.marks) c.in_ok-note_home.ensures ∙ note_length (cells_in root) s ∙ c.loop-at.invariant.marks;
      left = root_left g.roots c.loop-at.at root s r _ l refl c.in_ok-note_home.ensures c.loop-at.invariant.left;
    }
