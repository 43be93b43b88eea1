use Rattle.std.proofs.Common.{◌≡◌, ◌≤◌, ◌+◌, ◌^◌, drop}
use Rattle.text_grammar.specs.Runs.{value_from}
use Rattle.text_parser.proofs.numbers.value_of.Given as goal

-- the value of the digits so far, which are few
abbrev pub invariant-loop-digit : goal.invariant-loop-digit
invariant-loop-digit l = (value_from l.value (drop l.digit-index l.digits) ≡ value_from 0 l.digits) × (l.value + 1 ≤ 10 ^ l.digit-index)
