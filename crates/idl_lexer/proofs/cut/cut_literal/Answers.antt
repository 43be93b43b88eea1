use Rattle.idl_lexer.proofs.LiteralEnds.{cut_as, unended_as}
use Rattle.idl_lexer.proofs.Cuts.{placed}
use Rattle.idl_lexer.proofs.cut.cut_literal.Goals as goal

pub returns-in-Ok : goal.returns-in-Ok
returns-in-Ok c = placed _ _ _ _ _ c.token.ensures (cut_as c.args.text.now c.args.kind c.args.due c.args.from c.in-Ok.to c.requires.within c.requires.opens c.in-Ok.ensures)

pub returns-in-Err : goal.returns-in-Err
returns-in-Err c = unended_as c.args.text.now c.args.kind c.args.due c.args.from c.in-Err.unended _ c.refuse_literal.ensures c.requires.within c.requires.opens c.in-Err.ensures
