use Rattle.std.proofs.Common.{sym}
use Rattle.text_parser.proofs.NamedLists.{known_name}
use Rattle.text_parser.proofs.names.Names.note.Goals as goal

pub returns-in-Some : goal.returns-in-Some
returns-in-Some c = known_name c.args.self.now c.args.cell c.args.to.0 _ (sym c.in-Some.ensures)
