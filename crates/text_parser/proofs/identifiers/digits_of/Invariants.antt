use Rattle.std.proofs.Common.{◌≡◌, ◌++◌, filter, drop}
use Rattle.text_grammar.proofs.Classes.{is_no_hyphen}
use Rattle.text_parser.proofs.identifiers.digits_of.Given as goal

abbrev pub invariant-loop-octet : goal.invariant-loop-octet
invariant-loop-octet l = l.digits ++ filter is_no_hyphen (drop l.octet-index l.written) ≡ filter is_no_hyphen l.written
