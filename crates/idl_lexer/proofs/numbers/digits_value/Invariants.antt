use Rattle.std.proofs.Common.{◌≡◌, ◌<◌, ◌^◌, drop}
use Rattle.idl_lexer.specs.Pieces.{value_from}
use Rattle.idl_lexer.proofs.numbers.digits_value.Given as goal

abbrev pub invariant-loop-digit : goal.invariant-loop-digit
invariant-loop-digit l = (value_from l.base 0 l.digits ≡ value_from l.base l.value (drop l.digit-index l.digits)) × (l.value < 2 ^ 64)
