-- Operands and operators: what exact readings of expressions are made of.
use Rattle.std.proofs.Common.{◌≡◌, ℕ, zero, suc, ◌+◌, ◌<◌, ◌≤◌, Bool, true, false, List, [], ◌∷◌, length, refl, sym, ap, subst, arith, ◌∙◌, leb, eqb, inl, inr, cond, ◌&&◌, ◌||◌, add-one}
use Rattle.std.proofs.lemmas.Bool.{le-leb, eqb-true, leb-false}
use Rattle.std.proofs.lemmas.Bool.Decides.{leb_tells}
use Rattle.nd_lemmas.proofs.Booleans.{clash}
use Rattle.idl_grammar.specs.Text.{Lexeme, Text, lexeme_at, symbol_at, is, is_in, Lifted, Rel, token}
use Rattle.idl_grammar.proofs.Exact.{Agrees, Stops, Exact, less}
use Rattle.idl_grammar.proofs.Parts.{token_exact, of_symbol}
use Rattle.idl_grammar.proofs.Sequences.{disjoint, apart}
use Rattle.idl_grammar.specs.declared.words.Spelling.{Spelling}
use Rattle.idl_grammar.specs.declared.expressions.BinaryOperator.{BinaryOperator}
use Rattle.idl_grammar.specs.declared.expressions.BinaryOperator.TheVariants as binary
use Rattle.idl_grammar.specs.declared.expressions.Operand.{Operand}
use Rattle.idl_grammar.specs.declared.expressions.Operand.TheVariants as operand
use Rattle.idl_grammar.specs.Symbols as symbol
use Rattle.idl_grammar.specs.Expressions.{names, level, symbol_level, is_unary, is_operator, operators, many_operators, symbols_of, binary_operators, unary_operators, spelling, leaf}
use Rattle.idl_grammar.specs.ReadExpressions.{is_operand, operand_of, leaf_read}
use Rattle.idl_grammar.proofs.Combine.{changed_exact}

-- ## counts

pub operators_agree : (t x : Text) (start i : ℕ) → Agrees t x i → operators x start i ≡ operators t start i
operators_agree t x start zero agrees = refl
operators_agree t x start (suc i) agrees =
    let e = operators_agree t x start i (less t x i (suc i) (omega arith) agrees) in
    let d = agrees i (omega arith) in
    ap (λ (n : ℕ). n + cond (leb start i && is_operator (symbol_at x i)) 1 0) e
    ∙ ap (λ (a : Lexeme). operators t start i + cond (leb start i && is_operator a.symbol) 1 0) d

pub many_operators_depends : (start : ℕ) (t x : Text) (i : ℕ) → Agrees t x (i + 1) → many_operators start x i ≡ many_operators start t i
unfolding many_operators
many_operators_depends start t x i agrees = ap (λ (n : ℕ). leb 64 n) (operators_agree t x start i (less t x i (i + 1) (omega arith) agrees))

pub few_operators : (t : Text) (start i : ℕ) → many_operators start t i ≡ false → operators t start i < 64
unfolding many_operators
few_operators t start i h = leb-false 64 (operators t start i) h

pub operators_rise : (t : Text) (start i m : ℕ) → i ≤ m → operators t start i ≤ operators t start m
operators_rise t start i zero h = let e : i ≡ 0 = omega arith in rw e (omega arith)
operators_rise t start i (suc m) h = elim (leb_tells i m) as (λ _. operators t start i ≤ operators t start (suc m)) [
  | inl le ↦ let below = operators_rise t start i m le.1 in omega (arith, below)
  | inr gt ↦ let e : i ≡ suc m = (let past : m < i = omega (arith, gt.1) in omega arith) in rw e (omega arith)
]

pub operators_step : (t : Text) (start i : ℕ) → start ≤ i → is_operator (symbol_at t i) ≡ true → operators t start (i + 1) ≡ operators t start i + 1
operators_step t start i h op =
    let e : leb start i ≡ true = le-leb start i h in
    rw (add-one, e, op)

-- ## symbols

pub low_level : (s : BinaryOperator) → leb 11 (level s) ≡ false
low_level binary.LogicalOr = refl
low_level _ = refl

abbrev pub operand_symbols : Bool → List ℕ
operand_symbols inside = symbol.Number ∷ symbol.Character ∷ symbol.True ∷ symbol.False ∷ names inside

pub operands_apart : (inside : Bool) → disjoint (operand_symbols inside) (symbols_of unary_operators) ≡ true
unfolding names unary_operators
operands_apart true = refl
operands_apart false = refl

pub operand_not_unary : (inside : Bool) (s : ℕ) → is_operand inside s ≡ true → is_unary s ≡ false
unfolding is_operand is_unary
operand_not_unary inside s h = apart (operand_symbols inside) (symbols_of unary_operators) s (operands_apart inside) h

pub operand_not_round : (inside : Bool) → is_operand inside symbol.OpenRound ≡ false
unfolding is_operand names
operand_not_round true = refl
operand_not_round false = refl

pub operand_real : (inside : Bool) → is_operand inside 0 ≡ false
unfolding is_operand names
operand_real true = refl
operand_real false = refl

pub unary_not_round : is_unary symbol.OpenRound ≡ false
unfolding is_unary unary_operators
unary_not_round = refl

pub unary_real : is_unary 0 ≡ false
unfolding is_unary unary_operators
unary_real = refl

pub unary_minus : is_unary symbol.Minus ≡ true
unfolding is_unary unary_operators
unary_minus = refl

-- what is no binary operator
pub colon_level : symbol_level symbol.Colon ≡ 0
unfolding symbol_level binary_operators
colon_level = refl

pub question_level : symbol_level symbol.Question ≡ 0
unfolding symbol_level binary_operators
question_level = refl

pub close_level : symbol_level symbol.CloseRound ≡ 0
unfolding symbol_level binary_operators
close_level = refl

pub end_level : symbol_level 0 ≡ 0
unfolding symbol_level binary_operators
end_level = refl

pub or_middle : (a b c : Bool) → b ≡ true → (a || (b || c)) ≡ true
or_middle true b c h = refl
or_middle false true c h = refl
or_middle false false c h = clash false h refl

pub or_end : (a b c : Bool) → c ≡ true → (a || (b || c)) ≡ true
or_end true b c h = refl
or_end false true c h = refl
or_end false false c h = h

pub operator_of_unary : (s : ℕ) → is_unary s ≡ true → is_operator s ≡ true
unfolding is_operator
operator_of_unary s h = or_middle (leb 1 (symbol_level s)) (is_unary s) (eqb s symbol.Question) h

pub operator_of_question : (s : ℕ) → is s symbol.Question ≡ true → is_operator s ≡ true
unfolding is_operator
operator_of_question s h = or_end (leb 1 (symbol_level s)) (is_unary s) (eqb s symbol.Question) h

-- ## operands

-- what a token is, by its symbol
abbrev pub by_symbol : Lexeme → ℕ → Operand
by_symbol a s =
    cond (is s symbol.Number) (operand.Number (spelling a))
    (cond (is s symbol.Character) (operand.Character (spelling a))
    (cond (is s symbol.True) (operand.True a.at)
    (cond (is s symbol.False) (operand.False a.at) (operand.Name (spelling a)))))

pub is_by_symbol : (a : Lexeme) → operand_of a ≡ by_symbol a a.symbol
unfolding operand_of
is_by_symbol a = refl

module _ {A : Type 0} (p q r s e : A) where
  pub pick : (a b c d : Bool) → (a || (b || (c || (d || false)))) ≡ false → cond a p (cond b q (cond c r (cond d s e))) ≡ e
  pick true b c d h = clash true refl h
  pick false true c d h = clash true refl h
  pick false false true d h = clash true refl h
  pick false false false true h = clash true refl h
  pick false false false false h = refl

pub names_apart : (inside : Bool) → disjoint (names inside) (symbol.Number ∷ symbol.Character ∷ symbol.True ∷ symbol.False ∷ []) ≡ true
unfolding names
names_apart true = refl
names_apart false = refl

pub name_operand : (inside : Bool) (a : Lexeme) → is_in (names inside) a.symbol ≡ true → operand.Name (spelling a) ≡ operand_of a
unfolding operand_of
name_operand inside a h =
    sym (pick _ _ _ _ (operand.Name (spelling a)) (is a.symbol symbol.Number) (is a.symbol symbol.Character) (is a.symbol symbol.True) (is a.symbol symbol.False)
    (apart (names inside) (symbol.Number ∷ symbol.Character ∷ symbol.True ∷ symbol.False ∷ []) a.symbol (names_apart inside) h))

module _ (inside : Bool) where
  abbrev pub operand_token : Rel Operand
  operand_token = token (λ a. is_operand inside a.symbol) operand_of

  pub is_operand_of : (s : ℕ) → is_in (operand_symbols inside) s ≡ true → is_operand inside s ≡ true
  unfolding is_operand
  is_operand_of s h = h

  -- a token of one symbol is an operand
  pub one_operand : (x : Text) (i s : ℕ) → is (symbol_at x i) s ≡ true → is_in (operand_symbols inside) s ≡ true → is_operand inside (symbol_at x i) ≡ true
  one_operand x i s e h = is_operand_of (symbol_at x i) (ap (λ (v : ℕ). is_in (operand_symbols inside) v) (eqb-true (symbol_at x i) s e) ∙ h)

  pub of_one : (x : Text) (i s : ℕ) → is (symbol_at x i) s ≡ true → by_symbol (lexeme_at x i) s ≡ operand_of (lexeme_at x i)
  of_one x i s e = sym (is_by_symbol (lexeme_at x i) ∙ ap (λ (v : ℕ). by_symbol (lexeme_at x i) v) (eqb-true (symbol_at x i) s e))

  pub in_names : (s : ℕ) → is_in (names inside) s ≡ true → is_operand inside s ≡ true
  in_names s h = is_operand_of s (later_in (eqb s symbol.Number) (eqb s symbol.Character) (eqb s symbol.True) (eqb s symbol.False) (is_in (names inside) s) h) where
    later_in : (a b c d e : Bool) → e ≡ true → (a || (b || (c || (d || e)))) ≡ true
    later_in true b c d e h = refl
    later_in false true c d e h = refl
    later_in false false true d e h = refl
    later_in false false false true e h = refl
    later_in false false false false e h = h

  pub leaf_back : (lifted : Lifted) (x : Text) (i j : ℕ) (a : Operand) → leaf inside a lifted x i j → operand_token a lifted x i j
  leaf_back lifted x i j (operand.Number s) ph = (one_operand x i symbol.Number ph.0 refl, ap (λ (v : Spelling). operand.Number v) ph.1 ∙ of_one x i symbol.Number ph.0, ph.2)
  leaf_back lifted x i j (operand.Character s) ph = (one_operand x i symbol.Character ph.0 refl, ap (λ (v : Spelling). operand.Character v) ph.1 ∙ of_one x i symbol.Character ph.0, ph.2)
  leaf_back lifted x i j (operand.Name s) ph = (in_names (symbol_at x i) ph.0, ap (λ (v : Spelling). operand.Name v) ph.1 ∙ name_operand inside (lexeme_at x i) ph.0, ph.2)
  leaf_back lifted x i j (operand.True at) ph = (one_operand x i symbol.True ph.0 refl, ap (λ (v : ℕ). operand.True v) ph.1 ∙ of_one x i symbol.True ph.0, ph.2)
  leaf_back lifted x i j (operand.False at) ph = (one_operand x i symbol.False ph.0 refl, ap (λ (v : ℕ). operand.False v) ph.1 ∙ of_one x i symbol.False ph.0, ph.2)

  pub is_in_list : (s : ℕ) → is_operand inside s ≡ true → is_in (operand_symbols inside) s ≡ true
  unfolding is_operand
  is_in_list s h = h

  pub leaf_forth : (lifted : Lifted) (x : Text) (i j : ℕ) (a : Operand) → operand_token a lifted x i j → leaf inside a lifted x i j
  leaf_forth lifted x i j a ph =
      subst (λ (v : Operand). leaf inside v lifted x i j) (sym (ph.1 ∙ is_by_symbol (lexeme_at x i)))
      (by_tests (is (lexeme_at x i).symbol symbol.Number) (is (lexeme_at x i).symbol symbol.Character) (is (lexeme_at x i).symbol symbol.True)
      (is (lexeme_at x i).symbol symbol.False) refl refl refl refl (is_in_list (symbol_at x i) ph.0)) where
        by_tests : (n c t f : Bool) → is (lexeme_at x i).symbol symbol.Number ≡ n → is (lexeme_at x i).symbol symbol.Character ≡ c → is (lexeme_at x i).symbol symbol.True ≡ t
            → is (lexeme_at x i).symbol symbol.False ≡ f
            → (n || (c || (t || (f || is_in (names inside) (lexeme_at x i).symbol)))) ≡ true
            → leaf inside
            (cond n (operand.Number (spelling (lexeme_at x i)))
            (cond c (operand.Character (spelling (lexeme_at x i)))
            (cond t (operand.True (lexeme_at x i).at) (cond f (operand.False (lexeme_at x i).at) (operand.Name (spelling (lexeme_at x i))))))) lifted x i j
        by_tests true c t f e d g k h = (e, refl, ph.2)
        by_tests false true t f e d g k h = (d, refl, ph.2)
        by_tests false false true f e d g k h = (g, refl, ph.2)
        by_tests false false false true e d g k h = (k, refl, ph.2)
        by_tests false false false false e d g k h = (h, refl, ph.2)

  pub leaf_exact : (Stop : Stops) (t : Text) (i : ℕ) → i ≤ length t → Exact (leaf inside) Stop t i (leaf_read inside t i)
  leaf_exact Stop t i in_text =
      changed_exact operand_token (leaf inside) leaf_forth Stop t i (λ lifted x e c j ph stop. leaf_back lifted x i j c ph) (leaf_read inside t i)
      (token_exact (λ a. is_operand inside a.symbol) operand_of (of_symbol symbol.Number) (is_operand_of symbol.Number refl) (operand_real inside) Stop t i in_text)
