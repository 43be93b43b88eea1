use Rattle.std.proofs.Common.{ap, ◌∙◌, length}
use Rattle.nd_value.specs.Seen.{cell_number}
use Rattle.nd_value.specs.Canon.{target}
use Rattle.nd_fit.specs.Reach.{Search, searched}
use Rattle.nd_fit.proofs.Searches.{note_length}
use Rattle.nd_fit.proofs.RowReach.{note_on, marks_first, marks_rest}
use Rattle.nd_fit.proofs.reach.note_plain.Goals as goal

pub note_one-requires : goal.note_one-requires
note_one-requires c =
    marks_first c.loop-cell.marks.items c.loop-cell.walk c.next_cell.new.self (target (cell_number c.in-Some.cell)) c.in-Some.ensures.some c.loop-cell.invariant.have

pub loop-cell-preserved : goal.loop-cell-preserved
loop-cell-preserved c =
    let s : Search = searched c.loop-cell.marks.items c.loop-cell.queue.items in
    let r : Search = searched c.note_one.new.marks.items c.note_one.new.queue.items in
    let xs = target (cell_number c.in-Some.cell) in
    record {
      have =
          marks_rest c.loop-cell.marks.items c.note_one.new.marks.items c.loop-cell.walk c.next_cell.new.self xs c.in-Some.ensures.some
          (ap (λ (x : Search). length x.marks) c.in_ok-note_one.ensures ∙ note_length xs s) c.loop-cell.invariant.have;
      left = note_on c.loop-cell.walk c.next_cell.new.self xs s r _ c.in-Some.ensures.some c.in_ok-note_one.ensures c.loop-cell.invariant.left;
    }
