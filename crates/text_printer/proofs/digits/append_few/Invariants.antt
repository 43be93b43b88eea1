use Rattle.std.proofs.Common.{◌≡◌, ◌++◌, take}
use Rattle.text_grammar.specs.Written.{hex_text}
use Rattle.text_printer.proofs.digits.append_few.Given as goal

abbrev pub invariant-loop-octet : goal.invariant-loop-octet
invariant-loop-octet l = l.text ≡ l.initial.text ++ hex_text (take l.octet-index l.octets)
