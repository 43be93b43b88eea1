-- The grammar of attribute configuration files (C706, section 4.3), from small to large, and the tree that it relates to texts.
use Rattle.std.specs.Prelude.{ℕ, ◌+◌, Bool, true, false, List, [], ◌∷◌, Option}
use Rattle.idl_grammar.specs.declared.words.Spelling.{Spelling}
use Rattle.idl_grammar.specs.Text.{Rel, Ban, nothing, mark, token, optional, unless, many, bracketed, located, is_in, ◌▹◌, ◌⊗◌, ◌⊳◌}
use Rattle.idl_grammar.specs.ReadPhrases.{to_unit}
use Rattle.idl_grammar.specs.Symbols as symbol
use Rattle.idl_grammar.specs.Expressions.{spelling, spelled}
use Rattle.idl_grammar.specs.Grammar.{in_round, commas, begins_at, is_banned_attribute}
use Rattle.acf_reader.specs.declared.tree.Attribute.{Attribute}
use Rattle.acf_reader.specs.declared.tree.HandleType.{HandleType}
use Rattle.acf_reader.specs.declared.tree.HandleType.TheVariants as handle
use Rattle.acf_reader.specs.declared.tree.AttributeKind.{AttributeKind}
use Rattle.acf_reader.specs.declared.tree.AttributeKind.TheVariants as kind
use Rattle.acf_reader.specs.Symbols as word
use Rattle.acf_reader.specs.Symbols.{names}

-- ## The tree without where it lies in memory

-- Each part has the name that it has in the program.

pub record Attributes : Type 0 where
  pub at : ℕ
  pub list : List Attribute

pub record Parameter : Type 0 where
  pub at : ℕ
  pub attributes : Option Attributes
  pub name : Spelling

pub data BodyElement : Type 0 where
  Include : (at : ℕ) (files : List Spelling) → BodyElement
  Types : (at : ℕ) (attributes : Attributes) (names : List Spelling) → BodyElement
  Operation : (at : ℕ) (attributes : Option Attributes) (name : Spelling) (parameters : List Parameter) → BodyElement

pub record Acf : Type 0 where
  pub at : ℕ
  pub attributes : Option Attributes
  pub name : Spelling
  pub body : List BodyElement

-- ## The grammar

-- A phrase is a relation of a text, the place where it begins and the place past it; each line is one alternative. depth is the number of
-- brackets that are open where a phrase begins; it is 4 at most, so the limit of 64 refuses nothing.

-- a name, inside attribute brackets or outside
abbrev pub ident : Bool → Rel Spelling
ident inside = token (λ a. is_in (names inside) a.symbol) spelling

-- "handle_t" | Ident
unfoldable pub handle_type : Rel HandleType
handle_type handle.Handle = mark symbol.HandleT
handle_type (handle.Name n) = ident true n

-- "code". Where the ban is lifted a banned word is taken for it, so that it is the ban that refuses it, and not the grammar.
abbrev pub code : Rel (Unit {0})
code u = unless Ban is_banned_attribute (token (λ a. is_in (word.Code ∷ symbol.BannedAttribute ∷ []) a.symbol) to_unit u)

-- aattr
unfoldable pub attribute_kind : ℕ → Rel AttributeKind
attribute_kind depth kind.AutoHandle = mark word.AutoHandle
attribute_kind depth kind.ExplicitHandle = mark word.ExplicitHandle
attribute_kind depth (kind.ImplicitHandle of name) = (word.ImplicitHandle ⊳ in_round depth (handle_type ⊗ ident true)) (of, name)
attribute_kind depth kind.Code = code tt
attribute_kind depth kind.NoCode = mark word.NoCode
attribute_kind depth kind.InLine = mark word.InLine
attribute_kind depth kind.OutOfLine = mark word.OutOfLine
attribute_kind depth kind.EnableAllocate = mark word.EnableAllocate
attribute_kind depth kind.Heap = mark word.Heap
attribute_kind depth kind.CommStatus = mark word.CommStatus
attribute_kind depth kind.FaultStatus = mark word.FaultStatus

unfoldable pub attribute : ℕ → Rel Attribute
attribute depth a = located (attribute_kind depth) (a.at, a.kind)

-- aattrs = "[" aattr { "," aattr } "]"
unfoldable pub attributes : ℕ → Rel Attributes
attributes depth a = located (bracketed depth symbol.OpenSquare symbol.CloseSquare (commas (attribute (depth + 1)))) (a.at, a.list)

-- aparam = [ aattrs ] Ident
unfoldable pub parameter : ℕ → Rel Parameter
parameter depth p = begins_at p.at (optional (attributes depth) p.attributes ▹ ident false p.name)

-- [ aparam { "," aparam } ]
unfoldable pub parameters : ℕ → Rel (List Parameter)
parameters depth [] = nothing
parameters depth (p ∷ others) = commas (parameter depth) (p ∷ others)

-- abody = "include" String { "," String } ";"
--       | "typedef" aattrs Ident { "," Ident } ";"
--       | [ aattrs ] Ident "(" [ aparam { "," aparam } ] ")" ";"
unfoldable pub body_element : ℕ → Rel BodyElement
body_element depth (Include at files) = begins_at at (mark word.Include ▹ commas (spelled symbol.Quoted) files ▹ mark symbol.Semicolon)
body_element depth (Types at a names) =
    begins_at at (mark symbol.Typedef ▹ attributes depth a ▹ commas (ident false) names ▹ mark symbol.Semicolon)
body_element depth (Operation at a name ps) =
    begins_at at (optional (attributes depth) a ▹ ident false name ▹ in_round depth (parameters (depth + 1)) ps ▹ mark symbol.Semicolon)

-- acf = [ aattrs ] "interface" Ident "{" { abody } "}"
unfoldable pub acf : Rel Acf
acf f =
    begins_at f.at
    (optional (attributes 0) f.attributes ▹ mark symbol.Interface ▹ ident false f.name ▹ bracketed 0 symbol.OpenCurly symbol.CloseCurly
    (many (body_element 1)) f.body)
