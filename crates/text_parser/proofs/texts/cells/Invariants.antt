use Rattle.std.proofs.Common.{length}
use Rattle.text_parser.specs.Known.{NamesKnown}
use Rattle.text_parser.specs.Lines.{CellsCame}
use Rattle.text_parser.proofs.texts.cells.Given as goal

abbrev pub invariant-loop-rest : goal.invariant-loop-rest
invariant-loop-rest l = CellsCame l.fn.under.version l.fn.under.types.now l.fn.names l.text l.cells l.names l.rest × NamesKnown l.fn.under.types.now l.names

abbrev pub decreases-loop-rest : goal.decreases-loop-rest
decreases-loop-rest l = length l.rest
