use Rattle.std.proofs.Common.{◌*◌, refl, arith}
use Rattle.text_printer.proofs.RowTexts.{numbers_begin, numbers_then, numbers_over}
use Rattle.text_printer.proofs.rows.append_numbers.Goals as goal

pub loop-turn-init : goal.loop-turn-init
loop-turn-init c = let r = c.args.row.now in numbers_begin r.order r.of r.count r.octets.now c.args.at c.args.text.now

pub loop-turn-preserved : goal.loop-turn-preserved
loop-turn-preserved c =
    let r = c.args.row.now in
    let wide = c.width_of-wide.result in
    numbers_then r.order r.of r.count r.octets.now c.args.at c.loop-turn.turn wide (c.loop-turn.turn * wide) c.args.text.now c.loop-turn.text c.append_separator.new.text c.append_one.new.text
    c.loop-turn-test.true c.width_of-wide.ensures.value refl c.in_ok-append_separator.ensures c.in_ok-append_one.ensures c.loop-turn.invariant

pub returns : goal.returns
returns c =
    let r = c.args.row.now in
    numbers_over r.order r.of r.count r.octets.now c.args.at c.loop-turn.turn c.args.text.now c.loop-turn.text (omega (arith, c.loop-turn-test.false)) c.loop-turn.invariant
