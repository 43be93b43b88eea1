use Rattle.std.proofs.Common.{◌++◌, ap, ◌∙◌}
use Rattle.std.proofs.lemmas.Result.{on_ok_weaker}
use Rattle.text_printer.proofs.Characters.{eight_digits}
use Rattle.text_printer.proofs.digits.append_eight.Goals as goal

pub returns : goal.returns
returns c =
    on_ok_weaker c.append.result
    (λ e.
    e
    ∙ ap (λ ys. c.args.text.now ++ ys)
    (rw (
      c.hex_digit.ensures,
      c.hex_digit-2.ensures,
      c.hex_digit-3.ensures,
      c.hex_digit-4.ensures,
      c.hex_digit-5.ensures,
      c.hex_digit-6.ensures,
      c.hex_digit-7.ensures,
      c.hex_digit-8.ensures,
      c.hex_digit-9.ensures,
      c.hex_digit-10.ensures,
      c.hex_digit-11.ensures,
      c.hex_digit-12.ensures,
      c.hex_digit-13.ensures,
      c.hex_digit-14.ensures,
      c.hex_digit-15.ensures,
      c.hex_digit-16.ensures,
    )
    (eight_digits c.args.octets.now c.requires)))
    c.append.ensures.ok
