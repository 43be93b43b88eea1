use Rattle.std.proofs.Common.{sym, arith}
use Rattle.text_parser.proofs.Quick.{no_digits, one_digit}
use Rattle.text_parser.proofs.numbers.leading_digits.Goals as goal

pub loop-digit-init : goal.loop-digit-init
loop-digit-init c = (no_digits c.args.text.now, omega arith)

pub loop-digit-preserved : goal.loop-digit-preserved
loop-digit-preserved c =
    let i = c.loop-digit.invariant in (
      one_digit c.args.text.now c.loop-digit.rest.now c.in-Some.after.now c.loop-digit.value c.in-Some.digit i.0 (sym c.in-Some.ensures.is),
      omega (arith, i.1, c.in-Some.ensures.less),
    )
