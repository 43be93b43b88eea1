use Rattle.std.proofs.Common.{◌≡◌, true, sym, ◌∙◌}
use Rattle.idl_lexer.proofs.Values.{hex_digits}
use Rattle.idl_lexer.proofs.numbers.decimal_of.Goals as goal

pub digits_value-requires-clause-digits : goal.digits_value-requires-clause-digits
digits_value-requires-clause-digits c = hex_digits c.args.octets.now (let h : c.all_digits.result ≡ true = cc in sym c.all_digits.ensures ∙ h)
