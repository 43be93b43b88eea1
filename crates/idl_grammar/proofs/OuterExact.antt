-- Outermost expressions are read exactly.
use Rattle.std.proofs.Common.{◌≡◌, ℕ, ◌≤◌, Bool, true, false, List, [], ◌∷◌, length, refl, arith, leb, cond, ◌||◌}
use Rattle.nd_lemmas.proofs.Booleans.{clash}
use Rattle.idl_grammar.specs.Text.{Text, symbol_at, is, is_in, Lifted}
use Rattle.idl_grammar.proofs.Exact.{Exact, HasPhrase}
use Rattle.idl_grammar.proofs.Parts.{turned_has}
use Rattle.idl_grammar.proofs.Sequences.{stops, Begins, subset, smaller, in_more}
use Rattle.idl_grammar.specs.declared.expressions.Operand.TheVariants as operand
use Rattle.idl_grammar.specs.Symbols as symbol
use Rattle.idl_grammar.specs.Expressions.{names, symbol_level, is_unary, symbols_of, binary_operators, unary_operators, level, binary_of, spelled, expr, outer}
use Rattle.idl_grammar.specs.Tree.{Expr, Leaf, Round, Unary, Binary, Conditional}
use Rattle.idl_grammar.specs.ReadExpressions.{outer_read}
use Rattle.idl_grammar.proofs.Combine.{alone_in, here_exact, stopped_exact, spelled_has}
use Rattle.idl_grammar.proofs.ExpressionParts.{operand_symbols, is_in_list, leaf_back}
use Rattle.idl_grammar.proofs.ExpressionsExact.{stop_whole, expr_exact}

-- what an expression begins with
unfoldable pub expr_firsts : Bool → List ℕ
expr_firsts inside =
    symbol.OpenRound ∷ symbol.Plus ∷ symbol.Minus ∷ symbol.Tilde ∷ symbol.Exclamation ∷ symbol.Number ∷ symbol.Character ∷ symbol.True ∷ symbol.False ∷ names inside

-- what goes on with an expression
unfoldable pub expr_ends : List ℕ
expr_ends =
    symbol.Question ∷ symbol.OrOr ∷ symbol.AndAnd ∷ symbol.Bar ∷ symbol.Caret ∷ symbol.Ampersand ∷ symbol.EqualsEquals ∷ symbol.NotEquals ∷ symbol.Less ∷ symbol.Greater
    ∷ symbol.LessEquals ∷ symbol.GreaterEquals ∷ symbol.ShiftLeft ∷ symbol.ShiftRight ∷ symbol.Plus ∷ symbol.Minus ∷ symbol.Star ∷ symbol.Slash ∷ symbol.Percent ∷ []

operators_end : subset (symbols_of binary_operators) expr_ends ≡ true
unfolding binary_operators expr_ends
operators_end = refl

question_ends : subset (symbol.Question ∷ []) expr_ends ≡ true
unfolding expr_ends
question_ends = refl

no_level : (b : Bool) (n : ℕ) → b ≡ false → leb 1 (cond b n 0) ≡ false
no_level false n h = refl
no_level true n h = clash true refl h

first_of_or : (b : Bool) → (b || false) ≡ false → b ≡ false
first_of_or false h = refl
first_of_or true h = h

whole_stops : (x : Text) (j : ℕ) → stops expr_ends x j → stop_whole x j
unfolding symbol_level
whole_stops x j stop = (
  no_level (is_in (symbols_of binary_operators) (symbol_at x j)) (level (binary_of (symbol_at x j))) (smaller (symbols_of binary_operators) expr_ends (symbol_at x j) operators_end stop),
  first_of_or (is (symbol_at x j) symbol.Question) (smaller (symbol.Question ∷ []) expr_ends (symbol_at x j) question_ends stop),
)

operands_first : (inside : Bool) → subset (operand_symbols inside) (expr_firsts inside) ≡ true
unfolding expr_firsts names
operands_first true = refl
operands_first false = refl

unary_first : (inside : Bool) → subset (symbols_of unary_operators) (expr_firsts inside) ≡ true
unfolding expr_firsts unary_operators
unary_first inside = refl

round_first : (inside : Bool) → subset (symbol.OpenRound ∷ []) (expr_firsts inside) ≡ true
unfolding expr_firsts
round_first inside = refl

unary_listed : (s : ℕ) → is_unary s ≡ true → is_in (symbols_of unary_operators) s ≡ true
unfolding is_unary
unary_listed s h = h

pub expr_begins : (inside : Bool) (depth start n : ℕ) (lifted : Lifted) (x : Text) (i j : ℕ) (e : Expr) → expr inside depth start n e lifted x i j → is_in (expr_firsts inside) (symbol_at x i) ≡ true
expr_begins inside depth start n lifted x i j (Leaf a) ph =
    in_more (operand_symbols inside) (expr_firsts inside) (symbol_at x i) (operands_first inside) (is_in_list inside (symbol_at x i) (leaf_back inside lifted x i j a ph).0)
expr_begins inside depth start n lifted x i j (Round at e) ph =
    in_more (symbol.OpenRound ∷ []) (expr_firsts inside) (symbol_at x i) (round_first inside) (alone_in symbol.OpenRound (symbol_at x i) ph.1.1.0)
expr_begins inside depth start n lifted x i j (Unary at s e) ph = in_more (symbols_of unary_operators) (expr_firsts inside) (symbol_at x i) (unary_first inside) (unary_listed (symbol_at x i) ph.1.1.0)
expr_begins inside depth start n lifted x i j (Binary l at s r) ph = expr_begins inside depth start (level s) lifted x i ph.1.0 l ph.1.1
expr_begins inside depth start n lifted x i j (Conditional c at a b) ph = expr_begins inside depth start 1 lifted x i ph.1.0 c ph.1.1

pub outer_begins : (inside : Bool) (depth : ℕ) → Begins (outer inside depth) (expr_firsts inside)
unfolding outer
outer_begins inside depth lifted x i j e ph = expr_begins inside depth i 0 lifted x i j e ph

-- an outermost expression of one number
pub outer_has : (inside : Bool) (depth : ℕ) → HasPhrase (outer inside depth)
unfolding outer
outer_has inside depth = turned_has (spelled symbol.Number) (outer inside depth) (λ s. Leaf (operand.Number s)) (λ lifted x i j a ph. ph) (spelled_has symbol.Number refl)

pub outer_exact : (nesting : ℕ) (inside : Bool) (t : Text) (depth i : ℕ) → 129 ≤ nesting → depth ≤ 64 → i ≤ length t
    → Exact (outer inside depth) (stops expr_ends) t i (outer_read nesting inside t depth i)
unfolding outer outer_read
outer_exact nesting inside t depth i enough shallow in_text =
    here_exact (expr inside depth i 0) (outer inside depth) (stops expr_ends) t i (λ lifted x j a ph. ph) (λ lifted x j a ph. ph) (outer_read nesting inside t depth i)
    (stopped_exact (expr inside depth i 0) stop_whole (stops expr_ends) t i whole_stops (outer_read nesting inside t depth i)
    (expr_exact inside i t nesting depth i shallow (omega arith) in_text (omega arith)).1)
