use Rattle.std.proofs.Common.{◌+◌}
use Rattle.idl_lexer.proofs.Comments.{NoEnd}
use Rattle.idl_lexer.proofs.cut.comment_end.Given as goal

abbrev pub invariant-loop-at : goal.invariant-loop-at
invariant-loop-at l = NoEnd l.text (l.from + 2) l.at
