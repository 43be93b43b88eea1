use Rattle.std.proofs.Common.{◌≡◌, ◌++◌, ◌*◌, take}
use Rattle.text_grammar.specs.Written.{hex_text}
use Rattle.text_printer.proofs.digits.append_hexes.Given as goal

abbrev pub invariant-loop-at : goal.invariant-loop-at
invariant-loop-at l = l.text ≡ l.initial.text ++ hex_text (take (8 * l.at) l.octets)
