use Rattle.std.proofs.Common.{length}
use Rattle.text_grammar.specs.Tokens.{character}
use Rattle.text_parser.proofs.Scanning.{Reaches}
use Rattle.text_parser.proofs.strings.string_octets.Given as goal

abbrev pub invariant-loop-octet : goal.invariant-loop-octet
invariant-loop-octet l = Reaches character l.body l.octets l.rest

abbrev pub decreases-loop-octet : goal.decreases-loop-octet
decreases-loop-octet l = length l.rest
