use Rattle.std.proofs.Common.{◌≡◌, ◌≤◌, take, map, length}
use Rattle.idl_grammar.specs.Text.{lexeme_of}
use Rattle.idl_tokens.specs.Lexemes.{text_of}
use Rattle.idl_tokens.proofs.lexemes.lexemes.Given as goal

-- so many tokens are taken over
abbrev pub invariant-loop-token : goal.invariant-loop-token
invariant-loop-token l = text_of l.list.items ≡ map (lexeme_of l.language l.tokens.text) (take l.token l.tokens.tokens)
