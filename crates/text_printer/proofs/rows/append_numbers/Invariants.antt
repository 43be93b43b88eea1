use Rattle.text_printer.proofs.RowTexts.{NumbersGo}
use Rattle.text_printer.proofs.rows.append_numbers.Given as goal

abbrev pub invariant-loop-turn : goal.invariant-loop-turn
invariant-loop-turn l = NumbersGo l.row.order l.row.of l.row.count l.row.octets.now l.at l.turn l.initial.text l.text
