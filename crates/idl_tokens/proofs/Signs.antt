-- Operators: their levels, and what is read of them.
use Rattle.std.proofs.Common.{◌≡◌, ◌≢◌, ℕ, zero, suc, ◌+◌, ◌<◌, ◌≤◌, Bool, true, false, cond, eqb, leb, length, refl, sym, ap, arith, ◌∙◌, Ok, Err, Some, None, eq-eqb}
use Rattle.std.proofs.lemmas.Bool.{lt-leb}
use Rattle.idl_grammar.specs.Text.{Text, lexeme_at, symbol_at, Depth}
use Rattle.idl_grammar.specs.ReadPhrases.{Syntax, Passes}
use Rattle.idl_grammar.proofs.Within.{test_within}
use Rattle.idl_grammar.specs.declared.expressions.BinaryOperator.{BinaryOperator}
use Rattle.idl_grammar.specs.declared.expressions.BinaryOperator.TheVariants as binary
use Rattle.idl_grammar.specs.declared.expressions.UnaryOperator.{UnaryOperator}
use Rattle.idl_grammar.specs.declared.expressions.UnaryOperator.TheVariants as unary
use Rattle.idl_grammar.specs.Expressions.{level, symbol_level, binary_operators, unary_operators, binary_of, unary_of, is_unary, operators, many_operators}
use Rattle.idl_grammar.specs.ReadExpressions.{unary_sign_read, binary_sign_read}
use Rattle.idl_tokens.specs.Found.{found}
use Rattle.idl_tokens.proofs.Basics.{is_found, not_found}
use Rattle.idl_grammar.proofs.OneVerdict.{unequal as not_equal}

-- levels

binary_is : (s : ℕ) (o : BinaryOperator) → found binary_operators s ≡ Some o → binary_of s ≡ o
unfolding binary_of
binary_is s o h = (is_found binary.LogicalOr binary_operators s o h).1

pub level_found : (s : ℕ) (o : BinaryOperator) → found binary_operators s ≡ Some o → level o ≡ symbol_level s
unfolding symbol_level
level_found s o h =
    sym (ap (λ (b : Bool). cond b (level (binary_of s)) 0) (is_found binary.LogicalOr binary_operators s o h).0 ∙ ap level (binary_is s o h))

pub level_none : (s : ℕ) → found binary_operators s ≡ None → symbol_level s ≡ 0
unfolding symbol_level
level_none s h = ap (λ (b : Bool). cond b (level (binary_of s)) 0) (not_found binary_operators s h)

pub unary_found : (s : ℕ) (o : UnaryOperator) → found unary_operators s ≡ Some o → is_unary s ≡ true
unfolding is_unary
unary_found s o h = (is_found unary.Plus unary_operators s o h).0

pub unary_none : (s : ℕ) → found unary_operators s ≡ None → is_unary s ≡ false
unfolding is_unary
unary_none s h = not_found unary_operators s h

unary_is : (s : ℕ) (o : UnaryOperator) → found unary_operators s ≡ Some o → unary_of s ≡ o
unfolding unary_of
unary_is s o h = (is_found unary.Plus unary_operators s o h).1

not_unary_end : is_unary 0 ≡ false
unfolding is_unary unary_operators
not_unary_end = refl

pub unary_within : (t : Text) (i : ℕ) (o : UnaryOperator) → found unary_operators (symbol_at t i) ≡ Some o → i < length t
unary_within t i o h = test_within t i is_unary not_unary_end (unary_found (symbol_at t i) o h)

not_binary_end : leb 1 (symbol_level 0) ≡ false
unfolding symbol_level binary_operators
not_binary_end = refl

level_low : (o : BinaryOperator) → leb 1 (level o) ≡ true
level_low o = elim o as (λ o. leb 1 (level o) ≡ true) [
  | binary.LogicalOr ↦ refl
  | binary.LogicalAnd ↦ refl
  | binary.Or ↦ refl
  | binary.ExclusiveOr ↦ refl
  | binary.And ↦ refl
  | binary.Equal ↦ refl
  | binary.NotEqual ↦ refl
  | binary.Less ↦ refl
  | binary.Greater ↦ refl
  | binary.LessEqual ↦ refl
  | binary.GreaterEqual ↦ refl
  | binary.ShiftLeft ↦ refl
  | binary.ShiftRight ↦ refl
  | binary.Add ↦ refl
  | binary.Subtract ↦ refl
  | binary.Multiply ↦ refl
  | binary.Divide ↦ refl
  | binary.Remainder ↦ refl
]

pub binary_within : (t : Text) (i : ℕ) (o : BinaryOperator) → found binary_operators (symbol_at t i) ≡ Some o → i < length t
binary_within t i o h = test_within t i (λ s. leb 1 (symbol_level s)) not_binary_end (ap (λ (n : ℕ). leb 1 n) (sym (level_found (symbol_at t i) o h)) ∙ level_low o)

-- what is read

module _ (start : ℕ) (t : Text) (i : ℕ) where
  module _ (o : UnaryOperator) (h : found unary_operators (symbol_at t i) ≡ Some o) where
    pub unary_sign_is : many_operators start t i ≡ false → unary_sign_read start t i ≡ Ok (((lexeme_at t i).at, o), i + 1)
    unary_sign_is few =
        ap (λ (b : Bool). cond b (cond (many_operators start t i) (Err (Passes Depth i)) (Ok (((lexeme_at t i).at, unary_of (symbol_at t i)), i + 1))) (Err (Syntax i)))
        (unary_found (symbol_at t i) o h)
        ∙ (ap (λ (b : Bool). cond b (Err (Passes Depth i)) (Ok (((lexeme_at t i).at, unary_of (symbol_at t i)), i + 1))) few
        ∙ ap (λ (u : UnaryOperator). Ok (((lexeme_at t i).at, u), i + 1)) (unary_is (symbol_at t i) o h))

    pub unary_sign_full : many_operators start t i ≡ true → unary_sign_read start t i ≡ Err (Passes Depth i)
    unary_sign_full full =
        ap (λ (b : Bool). cond b (cond (many_operators start t i) (Err (Passes Depth i)) (Ok (((lexeme_at t i).at, unary_of (symbol_at t i)), i + 1))) (Err (Syntax i)))
        (unary_found (symbol_at t i) o h)
        ∙ ap (λ (b : Bool). cond b (Err (Passes Depth i)) (Ok (((lexeme_at t i).at, unary_of (symbol_at t i)), i + 1))) full

  pub unary_sign_none : found unary_operators (symbol_at t i) ≡ None → unary_sign_read start t i ≡ Err (Syntax i)
  unary_sign_none h =
      ap (λ (b : Bool). cond b (cond (many_operators start t i) (Err (Passes Depth i)) (Ok (((lexeme_at t i).at, unary_of (symbol_at t i)), i + 1))) (Err (Syntax i))) (unary_none (symbol_at t i) h)

module _ (n start : ℕ) (t : Text) (i : ℕ) where
  pub binary_sign_none : found binary_operators (symbol_at t i) ≡ None → 1 ≤ n → binary_sign_read n start t i ≡ Err (Syntax i)
  binary_sign_none h low =
      ap (λ (b : Bool). cond b (cond (many_operators start t i) (Err (Passes Depth i)) (Ok (((lexeme_at t i).at, binary_of (symbol_at t i)), i + 1))) (Err (Syntax i)))
      (ap (λ (m : ℕ). eqb m n) (level_none (symbol_at t i) h) ∙ not_equal 0 n (λ e. omega (arith, e, low)))

  module _ (o : BinaryOperator) (h : found binary_operators (symbol_at t i) ≡ Some o) where
    pub binary_sign_other : level o ≢ n → binary_sign_read n start t i ≡ Err (Syntax i)
    binary_sign_other other =
        ap (λ (b : Bool). cond b (cond (many_operators start t i) (Err (Passes Depth i)) (Ok (((lexeme_at t i).at, binary_of (symbol_at t i)), i + 1))) (Err (Syntax i)))
        (ap (λ (m : ℕ). eqb m n) (sym (level_found (symbol_at t i) o h)) ∙ not_equal (level o) n other)

    same_level : level o ≡ n → eqb (symbol_level (symbol_at t i)) n ≡ true
    same_level e = eq-eqb (symbol_level (symbol_at t i)) n (sym (level_found (symbol_at t i) o h) ∙ e)

    pub binary_sign_full : level o ≡ n → many_operators start t i ≡ true → binary_sign_read n start t i ≡ Err (Passes Depth i)
    binary_sign_full e full =
        ap (λ (b : Bool). cond b (cond (many_operators start t i) (Err (Passes Depth i)) (Ok (((lexeme_at t i).at, binary_of (symbol_at t i)), i + 1))) (Err (Syntax i))) (same_level e)
        ∙ ap (λ (b : Bool). cond b (Err (Passes Depth i)) (Ok (((lexeme_at t i).at, binary_of (symbol_at t i)), i + 1))) full

    pub binary_sign_is : level o ≡ n → many_operators start t i ≡ false → binary_sign_read n start t i ≡ Ok (((lexeme_at t i).at, o), i + 1)
    binary_sign_is e few =
        ap (λ (b : Bool). cond b (cond (many_operators start t i) (Err (Passes Depth i)) (Ok (((lexeme_at t i).at, binary_of (symbol_at t i)), i + 1))) (Err (Syntax i))) (same_level e)
        ∙ (ap (λ (b : Bool). cond b (Err (Passes Depth i)) (Ok (((lexeme_at t i).at, binary_of (symbol_at t i)), i + 1))) few
        ∙ ap (λ (u : BinaryOperator). Ok (((lexeme_at t i).at, u), i + 1)) (binary_is (symbol_at t i) o h))

-- what the functions that read an operator name
pub ruleset unary_signs = (unary_sign_is, unary_sign_full, unary_sign_none, unary_within)

pub ruleset binary_signs = (binary_sign_is, binary_sign_full, binary_sign_other, binary_sign_none, binary_within)

-- ## counting

pub none_before : (t : Text) (start i : ℕ) → i ≤ start → operators t start i ≡ 0
none_before t start zero h = refl
none_before t start (suc i) h =
    let none : operators t start i ≡ 0 = none_before t start i (omega (arith, h)) in
    let before : leb start i ≡ false = lt-leb start i (omega (arith, h)) in
    rw (none, before) refl
