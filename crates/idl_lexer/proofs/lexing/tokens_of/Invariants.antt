use Rattle.std.proofs.Common.{◌-◌, length}
use Rattle.idl_lexer.proofs.Passes.{SoFar}
use Rattle.idl_lexer.proofs.lexing.tokens_of.Given as goal

abbrev pub invariant-loop-at : goal.invariant-loop-at
invariant-loop-at l = SoFar l.text l.tokens.items l.at

abbrev pub decreases-loop-at : goal.decreases-loop-at
decreases-loop-at l = length l.text - l.at
