-- What the functions that read tokens and expressions give, on lists.
use Rattle.std.specs.Prelude.{ℕ, zero, suc, ◌+◌, ◌-◌, Bool, true, false, ◌==◌, List, [], ◌∷◌, if◌then◌else◌, length, Option, Some, None, Err}
use Rattle.idl_grammar.specs.Text.{Lexeme, Text, symbol_at, is, is_in, Depth, many_brackets}
use Rattle.idl_grammar.specs.ReadPhrases.{Read, Passes, and_then, turned, token_read, ruled_read, mark_read, optional_read, many_read, end_with}
use Rattle.idl_grammar.specs.ReadPhrases.{behind_read}
use Rattle.idl_grammar.specs.declared.words.Spelling.{Spelling}
use Rattle.idl_grammar.specs.declared.expressions.BinaryOperator.{BinaryOperator}
use Rattle.idl_grammar.specs.declared.expressions.UnaryOperator.{UnaryOperator}
use Rattle.idl_grammar.specs.declared.expressions.Operand.{Operand}
use Rattle.idl_grammar.specs.declared.expressions.Operand.TheVariants as operand
use Rattle.idl_grammar.specs.Symbols as symbol
use Rattle.idl_grammar.specs.Expressions.{names, symbol_level, is_unary, binary_of, unary_of, many_operators, spelling}
use Rattle.idl_grammar.specs.Tree.{Expr, Leaf, Round, Unary, Binary, Conditional}

-- ## Tokens

-- a token of a symbol, as it is spelled
abbrev pub spelled_read : ℕ → Text → ℕ → Read Spelling
spelled_read s t i = token_read (λ a. is a.symbol s) spelling t i

-- the octet of a word or mark
abbrev pub placed_read : ℕ → Text → ℕ → Read ℕ
placed_read s t i = token_read (λ a. is a.symbol s) (λ a. a.at) t i

abbrev pub ident_read : Bool → Text → ℕ → Read Spelling
ident_read inside t i = token_read (λ a. is_in (names inside) a.symbol) spelling t i

unfoldable pub is_operand : Bool → ℕ → Bool
is_operand inside s = is_in (symbol.Number ∷ symbol.Character ∷ symbol.True ∷ symbol.False ∷ names inside) s

unfoldable pub operand_of : Lexeme → Operand
operand_of a =
    if is a.symbol symbol.Number then operand.Number (spelling a)
    else (if is a.symbol symbol.Character then operand.Character (spelling a)
    else (if is a.symbol symbol.True then operand.True a.at
    else (if is a.symbol symbol.False then operand.False a.at else operand.Name (spelling a))))

abbrev pub leaf_read : Bool → Text → ℕ → Read Operand
leaf_read inside t i = token_read (λ a. is_operand inside a.symbol) operand_of t i

-- the octet of a bracket that opens, with so many others open
abbrev pub opening_read : ℕ → ℕ → Text → ℕ → Read ℕ
opening_read depth s t i = ruled_read Depth (many_brackets depth) (λ a. is a.symbol s) (λ a. a.at) t i

-- ## Operators of the expression that begins at start, each with its octet

abbrev pub unary_sign_read : ℕ → Text → ℕ → Read (ℕ × UnaryOperator)
unary_sign_read start t i = ruled_read Depth (many_operators start) (λ a. is_unary a.symbol) (λ a. (a.at, unary_of a.symbol)) t i

-- a binary operator of a level
abbrev pub binary_sign_read : ℕ → ℕ → Text → ℕ → Read (ℕ × BinaryOperator)
binary_sign_read n start t i = ruled_read Depth (many_operators start) (λ a. symbol_level a.symbol == n) (λ a. (a.at, binary_of a.symbol)) t i

abbrev pub question_read : ℕ → Text → ℕ → Read ℕ
question_read start t i = ruled_read Depth (many_operators start) (λ a. is a.symbol symbol.Question) (λ a. a.at) t i

-- ## Expressions

-- operands after an expression, joined to it from the left
abbrev pub fold : Expr → List ((ℕ × BinaryOperator) × Expr) → Expr
fold e [] = e
fold e (o ∷ others) = fold (Binary e o.0.0 o.0.1 o.1) others

-- an operator of a level, and its right operand
abbrev pub operation_read : ℕ → ℕ → Text → (ℕ → Read Expr) → ℕ → Read ((ℕ × BinaryOperator) × Expr)
operation_read n start t operand i = and_then (binary_sign_read n start t i) (λ o m. operand m)

-- a level of binary operators: 10 - k, or the unary ones for k = 0
abbrev pub level_read : ℕ → Text → (ℕ → Read Expr) → ℕ → ℕ → Read Expr
level_read start t unary zero i = unary i
level_read start t unary (suc k) i =
    turned (λ p. fold p.0 p.1)
    (and_then (level_read start t unary k i)
    (λ e m. many_read (λ a. symbol_level a.symbol == 10 - k) (operation_read (10 - k) start t (level_read start t unary k)) t
    (suc (length t)) m))

abbrev pub conditional_of : Expr × Option (ℕ × (Expr × Expr)) → Expr
conditional_of p = elim p.1 [ None ↦ p.0 | Some q ↦ Conditional p.0 q.0 q.1.0 q.1.1 ]

-- `?`, an expression, `:` and an expression
abbrev pub choice_of_two_read : ℕ → Text → (ℕ → Read Expr) → ℕ → Read (ℕ × (Expr × Expr))
choice_of_two_read start t whole i = and_then (question_read start t i) (λ at n. and_then (whole n) (λ a o. behind_read symbol.Colon t whole o))

abbrev pub conditional_read : ℕ → Text → (ℕ → Read Expr) → (ℕ → Read Expr) → ℕ → Read Expr
conditional_read start t first whole i =
    turned conditional_of (and_then (first i) (λ c m. optional_read (λ a. is a.symbol symbol.Question) (choice_of_two_read start t whole) t m))

-- an expression in brackets
abbrev pub round_read : ℕ → Text → (ℕ → ℕ → Read Expr) → ℕ → Read (ℕ × Expr)
round_read depth t whole i =
    and_then (opening_read depth symbol.OpenRound t i) (λ at m. end_with (whole (depth + 1) m) (λ n. mark_read symbol.CloseRound t n))

abbrev pub unary_read : Bool → ℕ → ℕ → Text → (ℕ → ℕ → Read Expr) → (ℕ → ℕ → Read Expr) → ℕ → Read Expr
unary_read inside start depth t unary whole i =
    if is_unary (symbol_at t i)
    then turned (λ p. Unary p.0.0 p.0.1 p.1) (and_then (unary_sign_read start t i) (λ s m. unary depth m))
    else (if is (symbol_at t i) symbol.OpenRound
    then turned (λ p. Round p.0 p.1) (round_read depth t whole i)
    else turned Leaf (leaf_read inside t i))

-- What is read with so many levels of nesting left: a whole expression, or one of the level of the unary operators.
abbrev pub expr_read : ℕ → Bool → ℕ → Text → Bool → ℕ → ℕ → Read Expr
expr_read zero inside start t whole depth i = Err (Passes Depth i)
expr_read (suc f) inside start t false depth i =
    unary_read inside start depth t (expr_read f inside start t false) (expr_read f inside start t true) i
expr_read (suc f) inside start t true depth i =
    conditional_read start t
    (level_read start t (unary_read inside start depth t (expr_read f inside start t false) (expr_read f inside start t true)) 10)
    (expr_read f inside start t true depth) i

-- an outermost expression
unfoldable pub outer_read : ℕ → Bool → Text → ℕ → ℕ → Read Expr
outer_read nesting inside t depth i = expr_read nesting inside i t true depth i
