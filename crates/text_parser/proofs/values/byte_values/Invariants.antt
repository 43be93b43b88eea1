use Rattle.std.proofs.Common.{◌≡◌, List, ℕ, length}
use Rattle.text_grammar.specs.Tokens.{hex_pair}
use Rattle.text_parser.proofs.Scanning.{Reaches}
use Rattle.text_parser.specs.ValueParts.{unit_trees}
use Rattle.text_parser.proofs.values.byte_values.Given as goal

abbrev pub invariant-loop-octet : goal.invariant-loop-octet
invariant-loop-octet l = (os : List ℕ) × (l.vals ≡ unit_trees os) × Reaches hex_pair l.body os l.rest

abbrev pub decreases-loop-octet : goal.decreases-loop-octet
decreases-loop-octet l = length l.rest
