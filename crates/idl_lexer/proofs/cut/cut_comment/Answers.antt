use Rattle.std.proofs.Common.{refl}
use Rattle.idl_lexer.proofs.Cuts.{comment_cut}
use Rattle.idl_lexer.proofs.cut.cut_comment.Goals as goal

pub returns-in-Some : goal.returns-in-Some
returns-in-Some c = (comment_cut c.args.text.now c.args.from c.in-Some.to c.requires.opens c.in-Some.ensures, refl)
