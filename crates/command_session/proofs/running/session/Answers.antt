-- The whole of a session is what it came to and how that was written; each row follows from it.
use Rattle.command_session.proofs.Ends.{written}
use Rattle.command_session.proofs.Rows as rows
use Rattle.command_session.proofs.running.session.Goals as goal

pub returns-clause-whole : goal.returns-clause-whole
returns-clause-whole g c = written _ _ _ _ c.perform-done.result c.perform-done.ensures c.write.ensures

pub returns-clause-statuses : goal.returns-clause-statuses
returns-clause-statuses g c = rows.statuses _ _ _ _ (written _ _ _ _ c.perform-done.result c.perform-done.ensures c.write.ensures)

pub returns-clause-done : goal.returns-clause-done
returns-clause-done g c = rows.answered _ _ _ _ (written _ _ _ _ c.perform-done.result c.perform-done.ensures c.write.ensures)

pub returns-clause-refused : goal.returns-clause-refused
returns-clause-refused g c = rows.refused_with _ _ _ _ (written _ _ _ _ c.perform-done.result c.perform-done.ensures c.write.ensures)

pub returns-clause-write : goal.returns-clause-write
returns-clause-write g c = rows.unwritten _ _ _ _ (written _ _ _ _ c.perform-done.result c.perform-done.ensures c.write.ensures)

pub returns-clause-unfailed : goal.returns-clause-unfailed
returns-clause-unfailed g c = rows.unfailed _ _ _ _ (written _ _ _ _ c.perform-done.result c.perform-done.ensures c.write.ensures)

pub returns-clause-complete : goal.returns-clause-complete
returns-clause-complete g c octets given script sound =
    rows.complete _ _ _ _ octets given sound script (written _ _ _ _ c.perform-done.result c.perform-done.ensures c.write.ensures)

pub returns-clause-exactly : goal.returns-clause-exactly
returns-clause-exactly g c octets r given fault sound =
    rows.exactly _ _ _ _ octets given sound r fault (written _ _ _ _ c.perform-done.result c.perform-done.ensures c.write.ensures)
