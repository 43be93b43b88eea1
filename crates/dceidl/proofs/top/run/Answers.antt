-- The whole of a run is what was asked for, an outcome, and how it was written; each row follows from it.
use Rattle.dceidl.proofs.Rows as rows
use Rattle.dceidl.proofs.Exact as exact
use Rattle.dceidl.proofs.top.run.Goals as goal

pub returns-clause-statuses : goal.returns-clause-statuses
returns-clause-statuses g c wanted is =
    rows.status_in _ _ _ wanted _ (rows.ended _ _ _ wanted _ c.args.words.now is c.run_over.ensures)

pub returns-clause-read : goal.returns-clause-read
returns-clause-read g c =
    rows.read _ _ _ _ c.args.words.now c.run_over.ensures

pub returns-clause-absent : goal.returns-clause-absent
returns-clause-absent g c =
    rows.absent _ _ _ _ c.args.words.now c.run_over.ensures

pub returns-clause-file : goal.returns-clause-file
returns-clause-file g c =
    rows.file _ _ _ _ c.args.words.now c.run_over.ensures

pub returns-clause-end : goal.returns-clause-end
returns-clause-end g c =
    rows.end _ _ _ _ c.args.words.now c.run_over.ensures

pub returns-clause-unfailed : goal.returns-clause-unfailed
returns-clause-unfailed g c nothing =
    rows.unfailed _ _ _ _ nothing c.args.words.now c.run_over.ensures

pub returns-clause-done : goal.returns-clause-done
returns-clause-done g c wanted is zero =
    rows.done_is _ _ _ wanted _ (rows.ended _ _ _ wanted _ c.args.words.now is c.run_over.ensures) zero

pub returns-clause-refused : goal.returns-clause-refused
returns-clause-refused g c wanted is zero four five =
    rows.refused_is _ _ _ wanted _ (rows.ended _ _ _ wanted _ c.args.words.now is c.run_over.ensures) zero four five

pub returns-clause-complete : goal.returns-clause-complete
returns-clause-complete g c wanted is sound =
    exact.complete _ _ _ wanted _ sound (rows.ended _ _ _ wanted _ c.args.words.now is c.run_over.ensures)

pub returns-clause-exactly : goal.returns-clause-exactly
returns-clause-exactly g c wanted r is sound =
    exact.exactly _ _ _ wanted _ sound (rows.ended _ _ _ wanted _ c.args.words.now is c.run_over.ensures) r

pub returns-clause-words : goal.returns-clause-words
returns-clause-words g c =
    rows.no_command _ _ _ _ c.args.words.now c.run_over.ensures

pub returns-clause-words_line : goal.returns-clause-words_line
returns-clause-words_line g c =
    rows.refused_line _ _ _ _ c.args.words.now c.run_over.ensures

pub returns-clause-write : goal.returns-clause-write
returns-clause-write g c =
    rows.write_failed _ _ _ _ c.args.words.now c.run_over.ensures

pub returns-clause-quiet : goal.returns-clause-quiet
returns-clause-quiet g c =
    rows.nothing_noted _ _ _ _ c.args.words.now c.run_over.ensures

pub returns-clause-asked : goal.returns-clause-asked
returns-clause-asked g c = c.run_over.ensures.asked

pub returns-clause-words_exactly : goal.returns-clause-words_exactly
returns-clause-words_exactly g c none = rows.no_command_status _ _ _ _ c.args.words.now c.run_over.ensures none

pub returns-clause-nothing_given : goal.returns-clause-nothing_given
returns-clause-nothing_given g c quiet zero four = rows.nothing_given _ _ _ _ c.args.words.now c.run_over.ensures quiet zero four
