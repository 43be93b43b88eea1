use Rattle.std.proofs.Common.{arith}
use Rattle.idl_lexer.proofs.Comments.{comment_none}
use Rattle.idl_lexer.proofs.cut.comment_end.Goals as goal

pub returns : goal.returns
returns c = comment_none c.args.text.now c.args.from c.requires.within (λ k le lt s t. c.loop-at.invariant k le (omega arith) s t)
