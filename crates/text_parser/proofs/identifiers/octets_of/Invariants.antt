use Rattle.std.proofs.Common.{◌≡◌, ◌++◌, true, length}
use Rattle.std.specs.List.{list_all}
use Rattle.nd_base.specs.Text.{is_hex_digit}
use Rattle.text_grammar.specs.Tokens.{hex_octets}
use Rattle.text_parser.proofs.identifiers.octets_of.Given as goal

abbrev pub invariant-loop-octet : goal.invariant-loop-octet
invariant-loop-octet l = (l.octets ++ hex_octets l.rest ≡ hex_octets l.digits) × (list_all is_hex_digit l.rest ≡ true)

abbrev pub decreases-loop-octet : goal.decreases-loop-octet
decreases-loop-octet l = length l.rest
