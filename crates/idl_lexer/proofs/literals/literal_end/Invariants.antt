use Rattle.idl_lexer.specs.Literals.{Reaches}
use Rattle.idl_lexer.proofs.literals.literal_end.Given as goal

abbrev pub invariant-loop-at : goal.invariant-loop-at
invariant-loop-at l = Reaches l.text l.fn.start l.first l.due l.at
