use Rattle.std.proofs.Common.{List, ℕ, subst, sym}
use Rattle.idl_lexer.specs.Verdict.{AreFormed}
use Rattle.idl_lexer.proofs.Words.{tokens_formed}
use Rattle.idl_lexer.proofs.lexing.lex_within.Goals as goal

pub keep-requires-clause-formed : goal.keep-requires-clause-formed
keep-requires-clause-formed c =
    subst (λ (text : List ℕ). AreFormed (record { text = text; tokens = c.in_ok-tokens.tokens.items })) (sym c.in_ok-copy.ensures)
    (tokens_formed c.args.text.now c.in_ok-tokens.tokens.items c.in_ok-tokens.ensures.tokens)
