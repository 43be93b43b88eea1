-- Texts and what is answered on their tokens.
use Rattle.std.specs.Prelude.{ℕ, List, [], ◌∷◌, ◌++◌, Some, None, codes}
use Rattle.idl_lexer.specs.declared.tokens.TokenKind.{TokenKind}
use Rattle.idl_lexer.specs.declared.tokens.TokenKind.TheVariants as token
use Rattle.idl_lexer.specs.declared.tokens.Token.{Token}
use Rattle.idl_lexer.specs.Verdict.{Lexed}
use Rattle.idl_grammar.specs.declared.words.Spelling.{Spelling}
use Rattle.acf_reader.specs.declared.tree.HandleType.TheVariants as handle
use Rattle.acf_reader.specs.declared.tree.AttributeKind.TheVariants as kind
use Rattle.acf_reader.specs.Grammar as tree
use Rattle.acf_reader.specs.Grammar.{Acf}

abbrev piece : TokenKind → ℕ → ℕ → Token
piece kind from to = record { kind = kind; from = from; to = to }

abbrev spelled_at : ℕ → List ℕ → Spelling
spelled_at at octets = record { at = at; octets = octets }

-- a file with an element or two of each form
abbrev pub small_file : Lexed
small_file = record {
  text =
      codes "[explicit_handle, implicit_handle(handle_t h)] interface a { include \"b.h\"; "
      ++ codes "typedef [heap] t, u; [code] f(x, [in_line] in); include(); }";
  tokens =
      piece token.Mark 0 1 ∷ piece token.Word 1 16 ∷ piece token.Mark 16 17 ∷ piece token.Word 18 33 ∷ piece token.Mark 33 34 ∷
      piece token.Word 34 42 ∷ piece token.Word 43 44 ∷ piece token.Mark 44 45 ∷ piece token.Mark 45 46 ∷ piece token.Word 47 56 ∷
      piece token.Word 57 58 ∷ piece token.Mark 59 60 ∷ piece token.Word 61 68 ∷ piece token.Str 69 74 ∷ piece token.Mark 74 75 ∷
      piece token.Word 76 83 ∷ piece token.Mark 84 85 ∷ piece token.Word 85 89 ∷ piece token.Mark 89 90 ∷ piece token.Word 91 92 ∷
      piece token.Mark 92 93 ∷ piece token.Word 94 95 ∷ piece token.Mark 95 96 ∷ piece token.Mark 97 98 ∷ piece token.Word 98 102 ∷
      piece token.Mark 102 103 ∷ piece token.Word 104 105 ∷ piece token.Mark 105 106 ∷ piece token.Word 106 107 ∷
      piece token.Mark 107 108 ∷ piece token.Mark 109 110 ∷ piece token.Word 110 117 ∷ piece token.Mark 117 118 ∷
      piece token.Word 119 121 ∷ piece token.Mark 121 122 ∷ piece token.Mark 122 123 ∷ piece token.Word 124 131 ∷
      piece token.Mark 131 132 ∷ piece token.Mark 132 133 ∷ piece token.Mark 133 134 ∷ piece token.Mark 135 136 ∷ [];
}

-- its tree
abbrev pub small_tree : Acf
small_tree = record {
  at = 0;
  attributes =
      Some (record {
        at = 0;
        list = record { at = 1; kind = kind.ExplicitHandle }
            ∷ record { at = 18; kind = kind.ImplicitHandle handle.Handle (spelled_at 43 (codes "h")) }
            ∷ [];
      });
  name = (spelled_at 57 (codes "a"));
  body =
      tree.Include 61 ((spelled_at 69 (codes "\"b.h\"")) ∷ [])
      ∷ tree.Types 76 (record { at = 84; list = record { at = 85; kind = kind.Heap } ∷ [] })
      ((spelled_at 91 (codes "t")) ∷ (spelled_at 94 (codes "u")) ∷ [])
      ∷ tree.Operation 97 (Some (record { at = 97; list = record { at = 98; kind = kind.Code } ∷ [] })) (spelled_at 104 (codes "f"))
      (record { at = 106; attributes = None; name = (spelled_at 106 (codes "x")) }
      ∷ record {
        at = 109;
        attributes = Some (record { at = 109; list = record { at = 110; kind = kind.InLine } ∷ [] });
        name = (spelled_at 119 (codes "in"));
      } ∷ [])
      ∷ tree.Operation 124 None (spelled_at 124 (codes "include")) []
      ∷ [];
}

-- no bracket at its end
abbrev pub unended : Lexed
unended = record {
  text = codes "interface a {";
  tokens =
      piece token.Word 0 9 ∷ piece token.Word 10 11 ∷ piece token.Mark 12 13 ∷ [];
}

-- an operation of the name `include`, and a string where its parameters should stand
abbrev pub include_behind_attributes : Lexed
include_behind_attributes = record {
  text = codes "interface a { [code] include \"x\"; }";
  tokens =
      piece token.Word 0 9 ∷ piece token.Word 10 11 ∷ piece token.Mark 12 13 ∷ piece token.Mark 14 15 ∷ piece token.Word 15 19 ∷
      piece token.Mark 19 20 ∷ piece token.Word 21 28 ∷ piece token.Str 29 32 ∷ piece token.Mark 32 33 ∷ piece token.Mark 34 35 ∷ [];
}

-- a word with which an attribute begins, where a name is in attribute brackets
abbrev pub attribute_name : Lexed
attribute_name = record {
  text = codes "[implicit_handle(handle_t code)] interface a { }";
  tokens =
      piece token.Mark 0 1 ∷ piece token.Word 1 16 ∷ piece token.Mark 16 17 ∷ piece token.Word 17 25 ∷ piece token.Word 26 30 ∷
      piece token.Mark 30 31 ∷ piece token.Mark 31 32 ∷ piece token.Word 33 42 ∷ piece token.Word 43 44 ∷ piece token.Mark 45 46 ∷
      piece token.Mark 47 48 ∷ [];
}

-- an attribute that this project leaves out
abbrev pub banned_attribute : Lexed
banned_attribute = record {
  text = codes "[handle] interface a { }";
  tokens =
      piece token.Mark 0 1 ∷ piece token.Word 1 7 ∷ piece token.Mark 7 8 ∷ piece token.Word 9 18 ∷ piece token.Word 19 20 ∷
      piece token.Mark 21 22 ∷ piece token.Mark 23 24 ∷ [];
}

-- a word that this project leaves out
abbrev pub banned_word : Lexed
banned_word = record {
  text = codes "interface a { } float";
  tokens =
      piece token.Word 0 9 ∷ piece token.Word 10 11 ∷ piece token.Mark 12 13 ∷ piece token.Mark 14 15 ∷ piece token.Word 16 21 ∷ [];
}
