use Rattle.text_printer.proofs.RowTexts.{DigitsGo}
use Rattle.text_printer.proofs.rows.append_narrow.Given as goal

abbrev pub invariant-loop-turn : goal.invariant-loop-turn
invariant-loop-turn l = DigitsGo l.row.order l.row.of l.row.count l.row.octets.now l.turn l.initial.text l.text
