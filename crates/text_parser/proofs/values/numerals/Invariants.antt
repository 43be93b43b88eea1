use Rattle.std.proofs.Common.{length}
use Rattle.text_parser.specs.Passing.{Named}
use Rattle.text_parser.specs.ValueParts.{HaveCome}
use Rattle.text_parser.proofs.values.numerals.Given as goal

-- the numbers so far
abbrev pub invariant-loop-next : goal.invariant-loop-next
invariant-loop-next l = (ns : Named) → HaveCome l.fn.under.version l.fn.under.types.now l.fn.elem.0 ns l.text l.vals ns l.rest

abbrev pub decreases-loop-next : goal.decreases-loop-next
decreases-loop-next l = length l.rest
