use Rattle.std.proofs.Common.{sym, subst, List}
use Rattle.idl_lexer.specs.declared.tokens.Token.{Token}
use Rattle.idl_lexer.proofs.Passes.{SoFar, one_piece}
use Rattle.idl_lexer.proofs.lexing.tokens_of.Goals as goal

pub loop-at-preserved : goal.loop-at-preserved
loop-at-preserved c =
    subst (λ (kept : List Token). SoFar c.args.text.now kept c.in-Ok.piece.to) (sym c.in_ok-keep_token-in-Ok.ensures.ok)
    (one_piece c.args.text.now c.loop-at.tokens.items c.loop-at.at c.in-Ok.piece c.loop-at.invariant c.in-Ok.ensures)
