use Rattle.std.proofs.Common.{ap, ◌∙◌, ◌≡◌, ◌<◌, subst, length, get_or, List, ℕ}
use Rattle.nd_fit.specs.Reach.{Search, searched}
use Rattle.nd_fit.proofs.Searches.{cell_turn}
use Rattle.nd_fit.proofs.reach.from_cells.Goals as goal

pub loop-at-preserved : goal.loop-at-preserved
loop-at-preserved c =
    let s : Search = searched c.loop-at.marks.items c.loop-at.queue.items in
    let r : Search = searched c.note_home.new.marks.items c.note_home.new.queue.items in
    let l : c.loop-at.at < length c.loop-at.queue.items = subst (λ (xs : List ℕ). c.loop-at.at < length xs) c.as_slice.ensures.value c.in-Some.ensures.0 in
    let e : c.in-Some.cell ≡ get_or c.loop-at.queue.items c.loop-at.at 0 = c.in-Some.ensures.1 ∙ ap (λ (xs : List ℕ). get_or xs c.loop-at.at 0) c.as_slice.ensures.value in
    cell_turn c.args.graph.now c.requires.names s r c.loop-at.at c.in-Some.cell l e c.in_ok-note_home.ensures c.loop-at.invariant
