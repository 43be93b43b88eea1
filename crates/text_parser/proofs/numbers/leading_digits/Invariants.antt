use Rattle.std.proofs.Common.{◌≤◌, length}
use Rattle.text_parser.specs.Quick.{HasDigits}
use Rattle.text_parser.proofs.numbers.leading_digits.Given as goal

abbrev pub invariant-loop-digit : goal.invariant-loop-digit
invariant-loop-digit l = HasDigits l.text l.value l.rest × (length l.rest ≤ length l.text)

abbrev pub decreases-loop-digit : goal.decreases-loop-digit
decreases-loop-digit l = length l.rest
