-- What the functions of the reader give, on lists: one reading for each function, in the shape of its calls. depth is the number of
-- brackets that are open at the place.
use Rattle.std.specs.Prelude.{ℕ, ◌+◌, Bool, true, false, List, [], ◌∷◌, Option, None, Ok}
use Rattle.idl_grammar.specs.Text.{Text, lexeme_at, is_in, Ban}
use Rattle.idl_grammar.specs.ReadPhrases.{Read, and_then, turned, token_read, ruled_read, mark_read, to_unit, located_read, option_read, list_read}
use Rattle.idl_grammar.specs.ReadPhrases.{behind_read}
use Rattle.idl_grammar.specs.declared.words.Spelling.{Spelling}
use Rattle.idl_grammar.specs.Symbols as symbol
use Rattle.idl_grammar.specs.Expressions.{Meant, meant, spelling}
use Rattle.idl_grammar.specs.ReadExpressions.{spelled_read}
use Rattle.idl_grammar.specs.Grammar.{is_banned_attribute}
use Rattle.idl_grammar.specs.Reading.{branch_read, bind_read, one_of_read, in_round_read, in_square_read, in_curly_read, commas_read, line_read}
use Rattle.acf_reader.specs.declared.tree.HandleType.{HandleType}
use Rattle.acf_reader.specs.declared.tree.HandleType.TheVariants as handle
use Rattle.acf_reader.specs.declared.tree.AttributeKind.{AttributeKind}
use Rattle.acf_reader.specs.declared.tree.AttributeKind.TheVariants as kind
use Rattle.acf_reader.specs.declared.tree.Attribute.{Attribute}
use Rattle.acf_reader.specs.Symbols as word
use Rattle.acf_reader.specs.Symbols.{names}
use Rattle.acf_reader.specs.Grammar as tree
use Rattle.acf_reader.specs.Grammar.{Attributes, Parameter, BodyElement, Acf}

abbrev pub ident_read : Bool → Text → ℕ → Read Spelling
ident_read inside t i = token_read (λ a. is_in (names inside) a.symbol) spelling t i

-- ## Attributes

unfoldable pub handle_type_read : Text → ℕ → Read HandleType
handle_type_read t i =
    branch_read (symbol.HandleT ∷ []) t i (turned (λ u. handle.Handle) (mark_read symbol.HandleT t i)) (turned handle.Name (ident_read true t i))

-- the type and the name of a variable
unfoldable pub variable_read : Text → ℕ → Read (HandleType × Spelling)
variable_read t i = and_then (handle_type_read t i) (λ c m. ident_read true t m)

unfoldable pub implicit_handle_read : Text → ℕ → ℕ → Read (HandleType × Spelling)
implicit_handle_read t depth i = behind_read word.ImplicitHandle t (in_round_read depth t (variable_read t)) i

-- attributes of one word
abbrev pub one_word_attributes : List (Meant AttributeKind)
one_word_attributes =
    meant word.AutoHandle kind.AutoHandle ∷ meant word.ExplicitHandle kind.ExplicitHandle ∷ meant word.NoCode kind.NoCode
    ∷ meant word.InLine kind.InLine
    ∷ meant word.OutOfLine kind.OutOfLine ∷ meant word.EnableAllocate kind.EnableAllocate ∷ meant word.Heap kind.Heap
    ∷ meant word.CommStatus kind.CommStatus
    ∷ meant word.FaultStatus kind.FaultStatus ∷ []

abbrev pub one_word_symbols : List ℕ
one_word_symbols =
    word.AutoHandle ∷ word.ExplicitHandle ∷ word.NoCode ∷ word.InLine ∷ word.OutOfLine ∷ word.EnableAllocate ∷ word.Heap ∷ word.CommStatus
    ∷ word.FaultStatus ∷ []

abbrev pub code_symbols : List ℕ
code_symbols = word.Code ∷ symbol.BannedAttribute ∷ []

-- `code`, or the refusal of a banned attribute
abbrev pub code_read : Text → ℕ → Read (Unit {0})
code_read t i = ruled_read Ban is_banned_attribute (λ a. is_in code_symbols a.symbol) to_unit t i

unfoldable pub attribute_kind_read : Text → ℕ → ℕ → Read AttributeKind
attribute_kind_read t depth i =
    branch_read one_word_symbols t i (one_of_read kind.Heap one_word_attributes t i)
    (branch_read code_symbols t i (turned (λ u. kind.Code) (code_read t i))
    (turned (λ p. kind.ImplicitHandle p.0 p.1) (implicit_handle_read t depth i)))

abbrev pub attribute_of : ℕ × AttributeKind → Attribute
attribute_of p = record { at = p.0; kind = p.1 }

unfoldable pub attribute_read : Text → ℕ → ℕ → Read Attribute
attribute_read t depth i = turned attribute_of (located_read t i (attribute_kind_read t depth i))

abbrev pub attributes_of : ℕ × List Attribute → Attributes
attributes_of p = record { at = p.0; list = p.1 }

unfoldable pub attributes_read : Text → ℕ → ℕ → Read Attributes
attributes_read t depth i = turned attributes_of (located_read t i (in_square_read depth t (commas_read t (attribute_read t (depth + 1))) i))

-- [ aattrs ]
unfoldable pub maybe_attributes_read : Text → ℕ → ℕ → Read (Option Attributes)
maybe_attributes_read t depth i = option_read (symbol.OpenSquare ∷ []) t (attributes_read t depth) i

-- ## The body

abbrev pub parameter_of : ℕ × (Option Attributes × Spelling) → Parameter
parameter_of p = record { at = p.0; attributes = p.1.0; name = p.1.1 }

unfoldable pub parameter_read : Text → ℕ → ℕ → Read Parameter
parameter_read t depth i = turned parameter_of (located_read t i (and_then (maybe_attributes_read t depth i) (λ a m. ident_read false t m)))

unfoldable pub parameters_read : Text → ℕ → ℕ → Read (List Parameter)
parameters_read t depth i = branch_read (symbol.CloseRound ∷ []) t i (Ok ([], i)) (commas_read t (parameter_read t depth) i)

-- "(" [ aparam { "," aparam } ] ")" ";"
unfoldable pub signature_read : Text → ℕ → ℕ → Read (List Parameter)
signature_read t depth i = line_read t (in_round_read depth t (parameters_read t (depth + 1)) i)

-- types that begin at an octet, from `typedef` on
unfoldable pub types_read : Text → ℕ → ℕ → ℕ → Read BodyElement
types_read t depth at i =
    turned (λ p. tree.Types at p.0 p.1)
    (behind_read symbol.Typedef t (λ m. and_then (attributes_read t depth m) (λ a o. line_read t (commas_read t (ident_read false t) o))) i)

-- What begins with `include` at an octet: strings where one follows, else an operation of that name.
unfoldable pub include_read : Text → ℕ → ℕ → ℕ → Read BodyElement
include_read t depth at i =
    bind_read (spelled_read word.Include t i)
    (λ name m.
    branch_read (symbol.Quoted ∷ []) t m (turned (tree.Include at) (line_read t (commas_read t (spelled_read symbol.Quoted t) m)))
    (turned (tree.Operation at None name) (signature_read t depth m)))

-- an operation that begins at an octet
unfoldable pub operation_read : Text → ℕ → ℕ → ℕ → Read BodyElement
operation_read t depth at i =
    turned (λ p. tree.Operation at p.0 p.1.0 p.1.1)
    (and_then (maybe_attributes_read t depth i) (λ a m. and_then (ident_read false t m) (λ name o. signature_read t depth o)))

unfoldable pub element_read : Text → ℕ → ℕ → Read BodyElement
element_read t depth i =
    branch_read (symbol.Typedef ∷ []) t i (types_read t depth (lexeme_at t i).at i)
    (branch_read (word.Include ∷ []) t i (include_read t depth (lexeme_at t i).at i) (operation_read t depth (lexeme_at t i).at i))

-- what an element of the body begins with
unfoldable pub element_firsts : List ℕ
element_firsts = symbol.Typedef ∷ symbol.OpenSquare ∷ names false

unfoldable pub body_read : Text → ℕ → ℕ → Read (List BodyElement)
body_read t depth i = list_read element_firsts t (element_read t depth) i

-- ## Files

abbrev pub acf_of : ℕ × (Option Attributes × (Spelling × List BodyElement)) → Acf
acf_of p = record { at = p.0; attributes = p.1.0; name = p.1.1.0; body = p.1.1.1 }

-- a whole file
unfoldable pub acf_read : Text → ℕ → Read Acf
acf_read t i =
    turned acf_of
    (located_read t i
    (and_then (maybe_attributes_read t 0 i)
    (λ a m. behind_read symbol.Interface t (λ o. and_then (ident_read false t o) (λ name q. in_curly_read 0 t (body_read t 1) q)) m)))
