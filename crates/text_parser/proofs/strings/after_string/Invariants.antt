use Rattle.std.proofs.Common.{length}
use Rattle.text_grammar.specs.Tokens.{character}
use Rattle.text_parser.proofs.Scanning.{HasReached}
use Rattle.text_parser.proofs.strings.after_string.Given as goal

abbrev pub invariant-loop-after : goal.invariant-loop-after
invariant-loop-after l = HasReached character l.body l.rest

abbrev pub decreases-loop-after : goal.decreases-loop-after
decreases-loop-after l = length l.rest
