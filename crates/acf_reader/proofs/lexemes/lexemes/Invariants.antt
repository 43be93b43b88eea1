use Rattle.std.proofs.Common.{◌≡◌, ◌++◌, drop, map}
use Rattle.idl_tokens.specs.Lexemes.{text_of}
use Rattle.acf_reader.specs.FromIdl.{lexeme_from}
use Rattle.acf_reader.proofs.lexemes.lexemes.Given as goal

-- all tokens are those that are done, and those that are left
abbrev pub invariant-loop-lexeme : goal.invariant-loop-lexeme
invariant-loop-lexeme l = map lexeme_from (text_of l.lexeme-items) ≡ text_of l.list.items ++ map lexeme_from (text_of (drop l.lexeme-index l.lexeme-items))
