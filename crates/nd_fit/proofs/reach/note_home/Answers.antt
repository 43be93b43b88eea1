use Rattle.std.proofs.Common.{ap, sym, subst, ◌∙◌}
use Rattle.std.proofs.lemmas.Result.{on_ok_weaker}
use Rattle.nd_value.specs.Tree.{Trees}
use Rattle.nd_value.specs.Names.{cells_in}
use Rattle.nd_fit.specs.Reach.{Search, searched, note, HaveMarks}
use Rattle.nd_fit.proofs.reach.note_home.Goals as goal

pub note_plain-requires : goal.note_plain-requires
note_plain-requires c = subst (λ (w : Trees). HaveMarks c.args.marks.now.items (cells_in w)) (sym c.plain_walk-plain.ensures) c.requires.have

pub note_all-requires : goal.note_all-requires
note_all-requires c = subst (λ (w : Trees). HaveMarks c.note_plain.new.marks.items (cells_in w)) (sym c.walk-walk.ensures) c.in_ok-note_plain.ensures.have

pub returns : goal.returns
returns c =
    let s : Search = searched c.args.marks.now.items c.args.queue.now.items in
    let r : Search = searched c.note_plain.new.marks.items c.note_plain.new.queue.items in
    on_ok_weaker c.note_all.result
    (λ e.
    e ∙ ap (λ (w : Trees). note (cells_in w) r) c.walk-walk.ensures ∙ c.in_ok-note_plain.ensures.left ∙ ap (λ (w : Trees). note (cells_in w) s) c.plain_walk-plain.ensures)
    c.note_all.ensures
