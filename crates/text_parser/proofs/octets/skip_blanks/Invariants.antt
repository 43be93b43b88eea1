use Rattle.std.proofs.Common.{◌≡◌, length}
use Rattle.text_grammar.specs.Tokens.{skip}
use Rattle.text_parser.proofs.octets.skip_blanks.Given as goal

-- the blanks so far are skipped
abbrev pub invariant-loop-rest : goal.invariant-loop-rest
invariant-loop-rest l = skip l.rest ≡ skip l.text

abbrev pub decreases-loop-rest : goal.decreases-loop-rest
decreases-loop-rest l = length l.rest
