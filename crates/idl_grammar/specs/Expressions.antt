-- The grammar of expressions (C706, section 4.2.7), with the lists of symbols that it and the other phrases go by.
use Rattle.std.specs.Prelude.{ℕ, ◌+◌, zero, suc, Bool, ◌&&◌, ◌||◌, if◌then◌else◌, ◌==◌, nat_le, List, [], ◌∷◌}
use Rattle.idl_grammar.specs.declared.expressions.BinaryOperator.{BinaryOperator}
use Rattle.idl_grammar.specs.declared.expressions.BinaryOperator.TheVariants as binary
use Rattle.idl_grammar.specs.declared.expressions.UnaryOperator.{UnaryOperator}
use Rattle.idl_grammar.specs.declared.expressions.UnaryOperator.TheVariants as unary
use Rattle.idl_grammar.specs.declared.words.Spelling.{Spelling}
use Rattle.idl_grammar.specs.declared.expressions.Operand.{Operand}
use Rattle.idl_grammar.specs.declared.expressions.Operand.TheVariants as operand
use Rattle.idl_grammar.specs.Text.{Text, symbol_at, is_in, Lexeme, Phrase, Rel, Depth, mark, token, unless, only_if, many_brackets, ◌▹◌, is}
use Rattle.idl_grammar.specs.Symbols as symbol
use Rattle.idl_grammar.specs.Tree.{Expr, Leaf, Round, Unary, Binary, Conditional}

-- ## Lists of symbols, and what is counted towards the limits of depth

-- ### Names (C706, section 4.2.2)

-- words with which an attribute begins, of those that are not reserved
abbrev attribute_symbols : List ℕ
attribute_symbols =
    symbol.Uuid ∷ symbol.Version ∷ symbol.Endpoint ∷ symbol.Local ∷ symbol.PointerDefault ∷ symbol.Ref ∷ symbol.Unique ∷ symbol.Ptr
    ∷ symbol.In ∷ symbol.Out ∷ symbol.String ∷ symbol.ContextHandle ∷ symbol.SizeIs ∷ symbol.MaxIs ∷ symbol.LengthIs ∷ symbol.FirstIs
    ∷ symbol.LastIs ∷ symbol.SwitchIs ∷ symbol.SwitchType ∷ symbol.Idempotent ∷ symbol.Broadcast ∷ symbol.Maybe ∷ symbol.AnySize
    ∷ symbol.AnyLength ∷ []

abbrev names_inside : List ℕ
names_inside = symbol.Name ∷ symbol.BannedAttribute ∷ []

abbrev names_outside : List ℕ
names_outside = symbol.Name ∷ symbol.BannedAttribute ∷ attribute_symbols

-- what is a name: inside attribute brackets no word with which an attribute begins
unfoldable pub names : Bool → List ℕ
names inside = if inside then names_inside else names_outside

-- ### Words that stand for a value

-- A word, and what it stands for.
pub record Meant (A : Type 0) : Type 0 where
  pub symbol : ℕ
  pub value : A

abbrev pub meant : {A : Type 0} → ℕ → A → Meant A
meant s a = record { symbol = s; value = a }

abbrev pub symbols_of : {A : Type 0} → List (Meant A) → List ℕ
symbols_of [] = []
symbols_of (m ∷ others) = m.symbol ∷ symbols_of others

-- what a symbol stands for, or the other value where it is none of these
abbrev pub value_of : {A : Type 0} → A → List (Meant A) → ℕ → A
value_of otherwise [] s = otherwise
value_of otherwise (m ∷ others) s = if s == m.symbol then m.value else value_of otherwise others s

-- ### Operators (C706, section 4.2.7)

-- the level of a binary operator, from the loosest
abbrev pub level : BinaryOperator → ℕ
level binary.LogicalOr = 1
level binary.LogicalAnd = 2
level binary.Or = 3
level binary.ExclusiveOr = 4
level binary.And = 5
level binary.Equal = 6
level binary.NotEqual = 6
level binary.Less = 7
level binary.Greater = 7
level binary.LessEqual = 7
level binary.GreaterEqual = 7
level binary.ShiftLeft = 8
level binary.ShiftRight = 8
level binary.Add = 9
level binary.Subtract = 9
level binary.Multiply = 10
level binary.Divide = 10
level binary.Remainder = 10

unfoldable pub binary_operators : List (Meant BinaryOperator)
binary_operators =
    meant symbol.OrOr binary.LogicalOr ∷ meant symbol.AndAnd binary.LogicalAnd ∷ meant symbol.Bar binary.Or
    ∷ meant symbol.Caret binary.ExclusiveOr ∷ meant symbol.Ampersand binary.And ∷ meant symbol.EqualsEquals binary.Equal
    ∷ meant symbol.NotEquals binary.NotEqual ∷ meant symbol.Less binary.Less ∷ meant symbol.Greater binary.Greater
    ∷ meant symbol.LessEquals binary.LessEqual ∷ meant symbol.GreaterEquals binary.GreaterEqual ∷ meant symbol.ShiftLeft binary.ShiftLeft
    ∷ meant symbol.ShiftRight binary.ShiftRight ∷ meant symbol.Plus binary.Add ∷ meant symbol.Minus binary.Subtract
    ∷ meant symbol.Star binary.Multiply ∷ meant symbol.Slash binary.Divide ∷ meant symbol.Percent binary.Remainder ∷ []

unfoldable pub unary_operators : List (Meant UnaryOperator)
unary_operators =
    meant symbol.Plus unary.Plus ∷ meant symbol.Minus unary.Minus ∷ meant symbol.Tilde unary.Complement ∷ meant symbol.Exclamation unary.Not ∷ []

unfoldable pub binary_of : ℕ → BinaryOperator
binary_of s = value_of binary.LogicalOr binary_operators s

unfoldable pub unary_of : ℕ → UnaryOperator
unary_of s = value_of unary.Plus unary_operators s

-- the level of a symbol, and 0 of what is no binary operator
unfoldable pub symbol_level : ℕ → ℕ
symbol_level s = if is_in (symbols_of binary_operators) s then level (binary_of s) else 0

unfoldable pub is_unary : ℕ → Bool
is_unary s = is_in (symbols_of unary_operators) s

-- an operator, where an expression has it
unfoldable pub is_operator : ℕ → Bool
is_operator s = nat_le 1 (symbol_level s) || (is_unary s || s == symbol.Question)

-- The operators from a place up to another.
abbrev pub operators : Text → ℕ → ℕ → ℕ
operators x start zero = 0
operators x start (suc i) = operators x start i + (if nat_le start i && is_operator (symbol_at x i) then 1 else 0)

-- an operator here would be the 65th of the expression that begins at start
unfoldable pub many_operators : ℕ → Text → ℕ → Bool
many_operators start x i = nat_le 64 (operators x start i)

-- ## Expressions

-- what the tree keeps of a token
abbrev pub spelling : Lexeme → Spelling
spelling a = record { at = a.at; octets = a.octets }

-- a token of a symbol, as it is spelled
abbrev pub spelled : ℕ → Rel Spelling
spelled s = token (λ a. is a.symbol s) spelling

-- a word or mark whose octet the tree keeps
abbrev pub placed : ℕ → Rel ℕ
placed s = token (λ a. is a.symbol s) (λ a. a.at)

-- a name, inside attribute brackets or outside
abbrev pub ident : Bool → Rel Spelling
ident inside = token (λ a. is_in (names inside) a.symbol) spelling

-- Number, Char, Ident, TRUE, FALSE
abbrev pub leaf : Bool → Rel Operand
leaf inside (operand.Number s) = spelled symbol.Number s
leaf inside (operand.Character s) = spelled symbol.Character s
leaf inside (operand.Name s) = ident inside s
leaf inside (operand.True at) = placed symbol.True at
leaf inside (operand.False at) = placed symbol.False at

-- a bracket that opens, with so many others open, and its octet
abbrev pub opening : ℕ → ℕ → Rel ℕ
opening depth s at = unless Depth (many_brackets depth) (placed s at)

-- an operator of the expression that begins at start
abbrev pub counted : ℕ → Phrase → Phrase
counted start p = unless Depth (many_operators start) p

-- the operators, each with its octet
abbrev pub unary_sign : Rel (ℕ × UnaryOperator)
unary_sign = token (λ a. is_unary a.symbol) (λ a. (a.at, unary_of a.symbol))

abbrev pub binary_sign : Rel (ℕ × BinaryOperator)
binary_sign = token (λ a. nat_le 1 (symbol_level a.symbol)) (λ a. (a.at, binary_of a.symbol))

-- Expressions of a level or a tighter one: 0 has ?:, 1 to 10 the binary operators, 11 the unary ones. The outermost
-- expression begins at start, and so many brackets are open as depth says. Binary operators group to the left: what
-- stands to the left is of the operator's own level, and what stands to the right of the next one. `?:` and the unary
-- operators group to the right.
abbrev pub expr : (inside : Bool) (depth start n : ℕ) → Expr → Phrase
expr inside depth start n (Leaf a) = leaf inside a
expr inside depth start n (Round at e) = opening depth symbol.OpenRound at ▹ expr inside (depth + 1) start 0 e ▹ mark symbol.CloseRound
expr inside depth start n (Unary at s e) = counted start (unary_sign (at, s)) ▹ expr inside depth start 11 e
expr inside depth start n (Binary l at s r) =
    only_if (nat_le n (level s)) (expr inside depth start (level s) l ▹ counted start (binary_sign (at, s)) ▹ expr inside depth start (level s + 1) r)
expr inside depth start n (Conditional c at a b) =
    only_if (n == 0)
    (expr inside depth start 1 c ▹ counted start
    (placed symbol.Question at) ▹ expr inside depth start 0 a ▹ mark symbol.Colon ▹ expr inside depth start 0 b)

-- An outermost expression: its operators are counted from where it begins.
unfoldable pub outer : (inside : Bool) (depth : ℕ) → Rel Expr
outer inside depth e lifted x i j = expr inside depth i 0 e lifted x i j
