-- Texts of one file as examples: their tokens, their trees, and which rule is told of them.
use Rattle.std.specs.Prelude.{ℕ, zero, suc, ◌+◌, ◌-◌, Bool, true, false, ◌==◌, List, [], ◌∷◌, Option, Some, None, Result, Ok, Err}
use Rattle.idl_grammar.specs.ReadPhrases.{Fault}
use Rattle.nd_base.specs.Text.{is_letter, is_digit, is_word_octet}
use Rattle.idl_lexer.specs.Pieces.{is_space, fits_uuid}
use Rattle.idl_lexer.specs.declared.tokens.TokenKind.{TokenKind}
use Rattle.idl_lexer.specs.declared.tokens.TokenKind.TheVariants as token
use Rattle.idl_lexer.specs.declared.tokens.Token.{Token}
use Rattle.idl_lexer.specs.Verdict.{Lexed}
use Rattle.idl_grammar.specs.declared.language.Language.{Language}
use Rattle.idl_grammar.specs.declared.language.Language.TheVariants.{C706}
use Rattle.idl_grammar.specs.Text.{lexemes}
use Rattle.idl_grammar.specs.Tree.{Tree}
use Rattle.idl_grammar.specs.Answers.{file_answer}
use Rattle.idl_rule_definitions.specs.Rules.{Breach, breach, first_broken}
use Rattle.idl_rule_definitions.specs.Alone.{alone}

-- ## Tokens of a text that has words, numbers, UUIDs, strings without escapes, spaces, `..` and marks of one octet alone

abbrev word_length : List ℕ → ℕ
word_length [] = 0
word_length (c ∷ cs) = elim (is_word_octet c) [ true ↦ word_length cs + 1 | false ↦ 0 ]

abbrev is_dot : List ℕ → Bool
is_dot [] = false
is_dot (c ∷ cs) = c == 46

abbrev mark_length : ℕ → List ℕ → ℕ
mark_length c cs = elim (c == 46) [ true ↦ elim (is_dot cs) [ true ↦ 2 | false ↦ 1 ] | false ↦ 1 ]

-- text begins with a UUID, from place k of it on; so many octets of it are left
abbrev uuid_begins : ℕ → ℕ → List ℕ → Bool
uuid_begins zero k text = true
uuid_begins (suc left) k [] = false
uuid_begins (suc left) k (c ∷ cs) = elim (fits_uuid k c) [ true ↦ uuid_begins left (k + 1) cs | false ↦ false ]

abbrev is_quote : ℕ → Bool
is_quote c = c == 34

-- the octets up to a closing quote, and it
abbrev quote_length : List ℕ → ℕ
quote_length [] = 0
quote_length (c ∷ cs) = elim (is_quote c) [ true ↦ 1 | false ↦ quote_length cs + 1 ]

abbrev other_kind : ℕ → TokenKind
other_kind c = elim (is_quote c) [ true ↦ token.Str | false ↦ token.Mark ]

abbrev kind_by_octet : ℕ → TokenKind
kind_by_octet c = elim (is_letter c) [ true ↦ token.Word | false ↦ elim (is_digit c) [ true ↦ token.Number | false ↦ other_kind c ] ]

abbrev token_kind : ℕ → List ℕ → TokenKind
token_kind c cs = elim (uuid_begins 36 0 (c ∷ cs)) [ true ↦ token.Uuid | false ↦ kind_by_octet c ]

abbrev other_length : ℕ → List ℕ → ℕ
other_length c cs = elim (is_quote c) [ true ↦ quote_length cs + 1 | false ↦ mark_length c cs ]

abbrev length_by_octet : ℕ → List ℕ → ℕ
length_by_octet c cs = elim (is_word_octet c) [ true ↦ word_length (c ∷ cs) | false ↦ other_length c cs ]

abbrev token_length : ℕ → List ℕ → ℕ
token_length c cs = elim (uuid_begins 36 0 (c ∷ cs)) [ true ↦ 36 | false ↦ length_by_octet c cs ]

abbrev token_at : ℕ → ℕ → List ℕ → Token
token_at at c cs = record { kind = token_kind c cs; from = at; to = at + token_length c cs }

-- the tokens from an octet on, where so many octets of a token are still passed over
abbrev tokens_from : ℕ → ℕ → List ℕ → List Token
tokens_from at rest [] = []
tokens_from at (suc rest) (c ∷ cs) = tokens_from (at + 1) rest cs
tokens_from at zero (c ∷ cs) =
    elim (is_space c) [ true ↦ tokens_from (at + 1) 0 cs | false ↦ token_at at c cs ∷ tokens_from (at + 1) (token_length c cs - 1) cs ]

abbrev pub cut : List ℕ → Lexed
cut text = record { text = text; tokens = tokens_from 0 0 text }

-- ## What is reported of a text

abbrev pub told_of_tree : Result Tree Fault → Option (Option Breach)
told_of_tree (Ok t) = Some (first_broken (alone t))
told_of_tree (Err f) = None

-- the rule that is reported of a text in a language, or that none is; nothing where the text is no file
abbrev pub told_in : Language → List ℕ → Option (Option Breach)
told_in language text = told_of_tree (file_answer 64 129 (lexemes language (cut text)))

-- the same in C706
abbrev pub told_of : List ℕ → Option (Option Breach)
told_of text = told_in C706 text

abbrev pub rule_at : ℕ → ℕ → Option (Option Breach)
rule_at rule at = Some (Some (breach rule (record { file = 0; at = at })))

abbrev pub no_rule : Option (Option Breach)
no_rule = Some None

-- a text with what is reported of it
pub record Example : Type 0 where
  pub text : List ℕ
  pub told : Option (Option Breach)

abbrev pub breaks : List ℕ → ℕ → ℕ → Example
breaks text rule at = record { text = text; told = rule_at rule at }

abbrev pub keeps : List ℕ → Example
keeps text = record { text = text; told = no_rule }
