use Rattle.std.proofs.Common.{length}
use Rattle.text_grammar.specs.Tokens.{hex_pair}
use Rattle.text_parser.proofs.Scanning.{HasReached}
use Rattle.text_parser.proofs.strings.after_bytes.Given as goal

abbrev pub invariant-loop-after : goal.invariant-loop-after
invariant-loop-after l = HasReached hex_pair l.body l.rest

abbrev pub decreases-loop-after : goal.decreases-loop-after
decreases-loop-after l = length l.rest
