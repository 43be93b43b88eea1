-- Expressions are read exactly.
use Rattle.std.proofs.Common.{◌≡◌, ℕ, zero, suc, ◌+◌, ◌-◌, ◌<◌, ◌≤◌, Bool, true, false, List, [], ◌∷◌, length, refl, sym, ap, subst, arith, ◌∙◌, leb, eqb, inl, inr, cond, Option, Some, None, min}
use Rattle.std.proofs.lemmas.Bool.{le-leb, eqb-true, leb-false, lt-leb}
use Rattle.std.proofs.lemmas.Bool.Decides.{eqb_tells}
use Rattle.nd_lemmas.proofs.Booleans.{clash}
use Rattle.idl_grammar.specs.Text.{Lexeme, Text, lexeme_at, symbol_at, is, Lifted, Rel, Depth, many_brackets, many, optional, ◌⊳◌, ◌⊲◌}
use Rattle.idl_grammar.specs.ReadPhrases.{Read, and_then, turned, many_read, behind_read}
use Rattle.idl_grammar.proofs.Exact.{Stops, Found, Exact, HasPhrase, pair, Meets, pair_exact, Part, turned_exact}
use Rattle.idl_grammar.proofs.Parts.{ruled_exact, optional_exact, optional_has, many_exact, many_has, marked, of_symbol, pair_has, turned_has}
use Rattle.idl_grammar.proofs.Sequences.{skip_exact, skip_has, end_meets_exact, end_has}
use Rattle.idl_grammar.specs.declared.expressions.UnaryOperator.{UnaryOperator}
use Rattle.idl_grammar.specs.declared.expressions.Operand.{Operand}
use Rattle.idl_grammar.specs.declared.expressions.Operand.TheVariants as operand
use Rattle.idl_grammar.specs.Symbols as symbol
use Rattle.idl_grammar.specs.Expressions.{level, symbol_level, is_unary, is_operator, operators, many_operators, binary_of, unary_of, binary_operators, spelled, placed, leaf, opening, counted}
use Rattle.idl_grammar.specs.Expressions.{unary_sign, expr}
use Rattle.idl_grammar.specs.Tree.{Expr, Leaf, Round, Unary, Binary, Conditional}
use Rattle.idl_grammar.specs.ReadExpressions.{leaf_read, opening_read, unary_sign_read, binary_sign_read, question_read, fold, operation_read, level_read, conditional_of, choice_of_two_read}
use Rattle.idl_grammar.specs.ReadExpressions.{conditional_read, round_read, unary_read, expr_read}
use Rattle.idl_grammar.proofs.Levels.{Sign, level_of_sign, at_level, item, split, whole}
use Rattle.idl_grammar.proofs.Combine.{spelled_has}
use Rattle.idl_grammar.proofs.ExpressionParts.{many_operators_depends, few_operators, operators_rise, operators_step, low_level, operand_not_unary, operand_not_round, unary_not_round, unary_real}
use Rattle.idl_grammar.proofs.ExpressionParts.{unary_minus, colon_level, question_level, close_level, end_level, operator_of_unary, operator_of_question, leaf_back, leaf_exact}

-- ## forward

pub expr_forward : (inside : Bool) (depth start n : ℕ) (e : Expr) (lifted : Lifted) (x : Text) (i j : ℕ) → expr inside depth start n e lifted x i j → i < j
expr_forward inside depth start n (Leaf a) lifted x i j ph = let e = (leaf_back inside lifted x i j a ph).2 in omega (arith, e)
expr_forward inside depth start n (Round at e) lifted x i j ph =
    omega (arith, expr_forward inside (depth + 1) start 0 e lifted x ph.0 ph.2.0 ph.2.1, ph.1.1.2, ph.2.2.1)
expr_forward inside depth start n (Unary at s e) lifted x i j ph = omega (arith, expr_forward inside depth start 11 e lifted x ph.0 j ph.2, ph.1.1.2)
expr_forward inside depth start n (Binary l at s r) lifted x i j ph =
    let w = ph.1 in
    omega (arith, expr_forward inside depth start (level s) l lifted x i w.0 w.1, w.2.1.1.2, expr_forward inside depth start (level s + 1) r lifted x w.2.0 j w.2.2)
expr_forward inside depth start n (Conditional c at a b) lifted x i j ph =
    let w = ph.1 in
    let v = w.2.2 in
    omega (
      arith,
      expr_forward inside depth start 1 c lifted x i w.0 w.1,
      w.2.1.1.2,
      expr_forward inside depth start 0 a lifted x w.2.0 v.0 v.1,
      v.2.1.1,
      expr_forward inside depth start 0 b lifted x v.2.0 j v.2.2,
    )

-- ## levels

-- What ends a phrase of the level 10 - k, or of the unary ones.
abbrev pub stop_at : ℕ → Stops
stop_at zero x j = Unit {0}
stop_at (suc k) x j = leb (10 - k) (symbol_level (symbol_at x j)) ≡ false

abbrev pub stop_whole : Stops
stop_whole x j = (leb 1 (symbol_level (symbol_at x j)) ≡ false) × (is (symbol_at x j) symbol.Question ≡ false)

abbrev level_of : ℕ → ℕ
level_of zero = 11
level_of (suc k) = 10 - k

level_of_next : (k : ℕ) → k < 10 → level_of k ≡ (10 - k) + 1
level_of_next zero h = refl
level_of_next (suc k) h = omega arith

stop_tighter : (k : ℕ) → k < 10 → (x : Text) (j : ℕ) → stop_at (suc k) x j → stop_at k x j
stop_tighter zero h x j stop = tt
stop_tighter (suc k) h x j stop =
    let below : symbol_level (symbol_at x j) < 10 - suc k = leb-false (10 - suc k) (symbol_level (symbol_at x j)) stop in
    lt-leb (10 - k) (symbol_level (symbol_at x j)) (omega arith)

stop_operator : (k : ℕ) → k < 10 → (x : Text) (j : ℕ) → eqb (symbol_level (symbol_at x j)) (10 - k) ≡ true → stop_at k x j
stop_operator zero h x j is_op = tt
stop_operator (suc k) h x j is_op =
    let e : symbol_level (symbol_at x j) ≡ 10 - suc k = eqb-true (symbol_level (symbol_at x j)) (10 - suc k) is_op in
    lt-leb (10 - k) (symbol_level (symbol_at x j)) (omega arith)

no_operator : (k : ℕ) (x : Text) (j : ℕ) → stop_at (suc k) x j → eqb (symbol_level (symbol_at x j)) (10 - k) ≡ false
no_operator k x j stop =
    let below : symbol_level (symbol_at x j) < 10 - k = leb-false (10 - k) (symbol_level (symbol_at x j)) stop in
    elim (eqb_tells (symbol_level (symbol_at x j)) (10 - k)) as (λ _. eqb (symbol_level (symbol_at x j)) (10 - k) ≡ false) [
      | inl eq ↦ absurd (let e : symbol_level (symbol_at x j) ≡ 10 - k = eq.1 in omega arith)
      | inr ne ↦ ne.0
    ]

abbrev anything : Stops
anything x j = Unit {0}

-- an operator of each level
some_operator : ℕ → ℕ
some_operator zero = symbol.Star
some_operator (suc zero) = symbol.Plus
some_operator (suc (suc zero)) = symbol.ShiftLeft
some_operator (suc (suc (suc zero))) = symbol.Less
some_operator (suc (suc (suc (suc zero)))) = symbol.EqualsEquals
some_operator (suc (suc (suc (suc (suc zero))))) = symbol.Ampersand
some_operator (suc (suc (suc (suc (suc (suc zero)))))) = symbol.Caret
some_operator (suc (suc (suc (suc (suc (suc (suc zero))))))) = symbol.Bar
some_operator (suc (suc (suc (suc (suc (suc (suc (suc zero)))))))) = symbol.AndAnd
some_operator _ = symbol.OrOr

some_level : (k : ℕ) → k < 10 → eqb (symbol_level (some_operator k)) (10 - k) ≡ true
unfolding some_operator symbol_level binary_of binary_operators
some_level zero h = refl
some_level (suc zero) h = refl
some_level (suc (suc zero)) h = refl
some_level (suc (suc (suc zero))) h = refl
some_level (suc (suc (suc (suc zero)))) h = refl
some_level (suc (suc (suc (suc (suc zero))))) h = refl
some_level (suc (suc (suc (suc (suc (suc zero)))))) h = refl
some_level (suc (suc (suc (suc (suc (suc (suc zero))))))) h = refl
some_level (suc (suc (suc (suc (suc (suc (suc (suc zero)))))))) h = refl
some_level (suc (suc (suc (suc (suc (suc (suc (suc (suc zero))))))))) h = refl
some_level (suc (suc (suc (suc (suc (suc (suc (suc (suc (suc k)))))))))) h = absurd (omega arith)

pub expr_has : (inside : Bool) (depth start n : ℕ) → HasPhrase (expr inside depth start n)
expr_has inside depth start n = turned_has (spelled symbol.Number) (expr inside depth start n) (λ s. Leaf (operand.Number s)) (λ lifted x i j a ph. ph) (spelled_has symbol.Number refl)

module _ (inside : Bool) (start : ℕ) where
  op_exact : (n : ℕ) (some : Lexeme) → eqb (symbol_level some.symbol) n ≡ true → 1 ≤ n → (t : Text) (i : ℕ) → i ≤ length t
      → Exact (at_level start n) anything t i (binary_sign_read n start t i)
  op_exact n some good low t i in_text =
      ruled_exact Depth (many_operators start) (many_operators_depends start) (λ a. eqb (symbol_level a.symbol) n) (λ a. (a.at, binary_of a.symbol)) some good
      (ap (λ (v : ℕ). eqb v n) end_level ∙ no_level n low) (λ lifted x j deep e. inl (deep j (omega arith))) anything t i in_text where
        no_level : (n : ℕ) → 1 ≤ n → eqb 0 n ≡ false
        no_level n h = elim (eqb_tells 0 n) as (λ _. eqb 0 n ≡ false) [ inl eq ↦ absurd (let e : 0 ≡ n = eq.1 in omega arith) | inr ne ↦ ne.0 ]

  module _ (t : Text) (depth base : ℕ) (unary : ℕ → Read Expr)
      (unary_exact : (i : ℕ) → base ≤ i → i ≤ length t → Exact (expr inside depth start 11) (stop_at 0) t i (unary i)) where
    module _ (k : ℕ) (h : k < 10)
        (inner : (i : ℕ) → base ≤ i → i ≤ length t → Exact (expr inside depth start ((10 - k) + 1)) (stop_at k) t i (level_read start t unary k i)) where
      low : 1 ≤ 10 - k
      low = omega arith

      item_exact : (i : ℕ) → base ≤ i → i ≤ length t → Exact (item inside depth start (10 - k)) (stop_at k) t i (operation_read (10 - k) start t (level_read start t unary k) i)
      item_exact i based in_text =
          pair_exact (at_level start (10 - k)) (expr inside depth start ((10 - k) + 1)) anything (stop_at k) (λ lifted x m j b ph stop. tt) (expr_has inside depth start ((10 - k) + 1)) t i
          (binary_sign_read (10 - k) start t i) (λ o m. level_read start t unary k m)
          (op_exact (10 - k) (of_symbol (some_operator k)) (some_level k h) low t i in_text)
          (λ s n found. inner n (omega (arith, found.after)) found.within)

      item_moves : (i : ℕ) (a : Sign × Expr) (m : ℕ) → Found (item inside depth start (10 - k)) (stop_at k) t i a m → i < m
      item_moves i a m found =
          let ph = found.phrase (λ _ _. true) t (λ p lt. refl) in
          omega (arith, ph.1.1.2, expr_forward inside depth start ((10 - k) + 1) a.1 (λ _ _. true) t ph.0 m ph.2)

      ops_exact : (i : ℕ) → base ≤ i → i ≤ length t
          → Exact (many (item inside depth start (10 - k))) (stop_at (suc k)) t i
          (many_read (λ a. eqb (symbol_level a.symbol) (10 - k)) (operation_read (10 - k) start t (level_read start t unary k)) t (suc (length t)) i)
      ops_exact i based in_text =
          many_exact (item inside depth start (10 - k)) (λ a. eqb (symbol_level a.symbol) (10 - k)) (stop_at k) (stop_at (suc k))
          (λ lifted x i j a ph. ph.1.1.0) (no_operator k) (stop_tighter k h) (stop_operator k h)
          t base (operation_read (10 - k) start t (level_read start t unary k)) item_moves item_exact (suc (length t)) i based in_text (omega arith)

      ops_meet : Meets (List (Sign × Expr)) (stop_at k) (many (item inside depth start (10 - k))) (stop_at (suc k))
      ops_meet lifted x m j [] ph stop = stop_tighter k h x m (subst (λ (n : ℕ). stop_at (suc k) x n) ph stop)
      ops_meet lifted x m j (o ∷ os) ph stop = stop_operator k h x m ph.1.1.1.0

      level_step : (i : ℕ) → base ≤ i → i ≤ length t → Exact (expr inside depth start (10 - k)) (stop_at (suc k)) t i (level_read start t unary (suc k) i)
      level_step i based in_text =
          turned_exact (pair (expr inside depth start ((10 - k) + 1)) (many (item inside depth start (10 - k)))) (expr inside depth start (10 - k)) (λ p. fold p.0 p.1)
          (λ lifted x i j a ph. whole inside depth start (10 - k) low lifted x a.0 a.1 i ph.0 j ph.1 ph.2)
          (stop_at (suc k)) t i
          (λ lifted x e c j ph stop.
          let s = split inside depth start (10 - k) low lifted x c i j ph in
          record { part = (s.head, s.ops); is = s.is; phrase = (s.mid, s.first, s.others) })
          _
          (pair_exact (expr inside depth start ((10 - k) + 1)) (many (item inside depth start (10 - k))) (stop_at k) (stop_at (suc k)) ops_meet (many_has (item inside depth start (10 - k))) t i
          (level_read start t unary k i) _ (inner i based in_text) (λ e m found. ops_exact m (omega (arith, found.after)) found.within))

    level_exact : (k : ℕ) → k ≤ 10 → (i : ℕ) → base ≤ i → i ≤ length t → Exact (expr inside depth start (level_of k)) (stop_at k) t i (level_read start t unary k i)
    level_exact zero h i based in_text = unary_exact i based in_text
    level_exact (suc k) h i based in_text = level_step k (omega arith)
        (λ i based in_text. subst (λ (n : ℕ). Exact (expr inside depth start n) (stop_at k) t i (level_read start t unary k i)) (level_of_next k (omega arith))
        (level_exact k (omega arith) i based in_text)) i based in_text

  -- ## the conditional

  abbrev question : Rel ℕ
  question at = counted start (placed symbol.Question at)

  module _ (depth : ℕ) where
    abbrev choice : Rel (ℕ × (Expr × Expr))
    choice = pair question (pair (expr inside depth start 0) (symbol.Colon ⊳ expr inside depth start 0))

    tight : (c : Expr) (lifted : Lifted) (x : Text) (i j : ℕ) → expr inside depth start 1 c lifted x i j → expr inside depth start 0 c lifted x i j
    tight (Leaf a) lifted x i j ph = ph
    tight (Round at e) lifted x i j ph = ph
    tight (Unary at s e) lifted x i j ph = ph
    tight (Binary l at s r) lifted x i j ph = (le-leb 0 (level s) (omega arith), ph.1)
    tight (Conditional c at a b) lifted x i j ph = absurd (let e : 1 ≡ 0 = eqb-true 1 0 ph.0 in omega arith)

    cond_forth : (lifted : Lifted) (x : Text) (i j : ℕ) (p : Expr × Option (ℕ × (Expr × Expr)))
        → pair (expr inside depth start 1) (optional choice) p lifted x i j → expr inside depth start 0 (conditional_of p) lifted x i j
    cond_forth lifted x i j (c, None) ph = subst (λ (k : ℕ). expr inside depth start 0 c lifted x i k) (sym ph.2) (tight c lifted x i ph.0 ph.1)
    cond_forth lifted x i j (c, Some q) ph = (refl, ph)

    cond_back : (lifted : Lifted) (x : Text) (c : Expr) (i j : ℕ) → expr inside depth start 0 c lifted x i j
        → Part (pair (expr inside depth start 1) (optional choice)) (expr inside depth start 0) conditional_of lifted x i j c
    cond_back lifted x (Leaf a) i j ph = record { part = (Leaf a, None); is = refl; phrase = (j, ph, refl) }
    cond_back lifted x (Round at e) i j ph = record { part = (Round at e, None); is = refl; phrase = (j, ph, refl) }
    cond_back lifted x (Unary at s e) i j ph = record { part = (Unary at s e, None); is = refl; phrase = (j, ph, refl) }
    cond_back lifted x (Binary l at s r) i j ph =
        let op = ph.1.2.1.1 in
        let m = ph.1.0 in
        let e : symbol_level (symbol_at x m) ≡ level s = level_of_sign (symbol_at x m) op.0 ∙ ap (λ (o : Sign). level o.1) (sym op.1) in
        record { part = (Binary l at s r, None); is = refl; phrase = (j, (ap (λ (v : ℕ). leb 1 v) (sym e) ∙ op.0, ph.1), refl) }
    cond_back lifted x (Conditional c at a b) i j ph = record { part = (c, Some (at, (a, b))); is = refl; phrase = ph.1 }

    choice_meets : Meets (Option (ℕ × (Expr × Expr))) (stop_at 10) (optional choice) stop_whole
    choice_meets lifted x m j None ph stop = subst (λ (k : ℕ). stop_at 10 x k) ph (stop.0)
    choice_meets lifted x m j (Some q) ph stop =
        ap (λ (s : ℕ). leb 1 (symbol_level s)) (eqb-true (symbol_at x m) symbol.Question ph.1.1.0) ∙ ap (λ (n : ℕ). leb 1 n) question_level

    colon_meets : Meets Expr stop_whole (symbol.Colon ⊳ expr inside depth start 0) stop_whole
    colon_meets lifted x m j b ph stop =
        (ap (λ (s : ℕ). leb 1 (symbol_level s)) ph.1.0 ∙ ap (λ (n : ℕ). leb 1 n) colon_level, ap (λ (s : ℕ). is s symbol.Question) ph.1.0)

    module _ (t : Text) (base : ℕ) (first : ℕ → Read Expr) (whole_of : ℕ → Read Expr)
        (first_exact : (i : ℕ) → base ≤ i → i ≤ length t → Exact (expr inside depth start 1) (stop_at 10) t i (first i))
        (whole_exact : (i : ℕ) → base ≤ i → i ≤ length t → is (symbol_at t i) symbol.Question ≡ true → many_operators start t i ≡ false
        → (m : ℕ) → i < m → m ≤ length t → Exact (expr inside depth start 0) stop_whole t m (whole_of m)) where
      choice_exact : (i : ℕ) → base ≤ i → i ≤ length t → Exact choice stop_whole t i (choice_of_two_read start t whole_of i)
      choice_exact i based in_text =
          pair_exact question (pair (expr inside depth start 0) (symbol.Colon ⊳ expr inside depth start 0)) anything stop_whole (λ lifted x m j b ph stop. tt)
          (pair_has _ _ (expr_has inside depth start 0) (skip_has symbol.Colon (expr inside depth start 0) refl (expr_has inside depth start 0))) t i
          (question_read start t i) (λ at n. and_then (whole_of n) (λ a o. behind_read symbol.Colon t whole_of o))
          (ruled_exact Depth (many_operators start) (many_operators_depends start) (λ a. is a.symbol symbol.Question) (λ a. a.at) (of_symbol symbol.Question) refl refl
          (λ lifted x j deep e. inl (deep j (omega arith))) anything t i in_text)
          (λ q n found.
          let on_t = found.phrase (λ _ _. false) t (λ p lt. refl) in
          let not_full : many_operators start t i ≡ false = elim on_t.0 [ inl free ↦ absurd (let e : false ≡ true = free in cc) | inr below ↦ below ] in
          let later = whole_exact i based in_text on_t.1.0 not_full in
          pair_exact (expr inside depth start 0) (symbol.Colon ⊳ expr inside depth start 0) stop_whole stop_whole colon_meets
          (skip_has symbol.Colon (expr inside depth start 0) refl (expr_has inside depth start 0)) t n (whole_of n) (λ a o. behind_read symbol.Colon t whole_of o)
          (later n (omega (arith, on_t.1.2)) found.within)
          (λ a o found_a. skip_exact symbol.Colon (expr inside depth start 0) stop_whole t o refl found_a.within (expr_has inside depth start 0) whole_of
          (λ p after in_p. later p (omega (arith, on_t.1.2, found_a.after)) in_p)))

      cond_exact : (i : ℕ) → base ≤ i → i ≤ length t → Exact (expr inside depth start 0) stop_whole t i (conditional_read start t first whole_of i)
      cond_exact i based in_text =
          turned_exact (pair (expr inside depth start 1) (optional choice)) (expr inside depth start 0) conditional_of cond_forth stop_whole t i
          (λ lifted x e c j ph stop. cond_back lifted x c i j ph) _
          (pair_exact (expr inside depth start 1) (optional choice) (stop_at 10) stop_whole choice_meets (optional_has choice) t i (first i) _ (first_exact i based in_text)
          (λ c m found. optional_exact choice (λ a. is a.symbol symbol.Question) stop_whole (λ lifted x i j a ph. ph.1.1.0) (λ x j stop. stop.1) t m found.within
          (choice_of_two_read start t whole_of) (choice_exact m (omega (arith, found.after)) found.within)))

  -- ## unary operators, and what they stand before

  module _ (t : Text) (depth base f : ℕ) (started : start ≤ base) (shallow : depth ≤ 64)
      (unary : ℕ → ℕ → Read Expr) (whole_of : ℕ → ℕ → Read Expr)
      (unary_exact : (i : ℕ) → base ≤ i → i ≤ length t → is_unary (symbol_at t i) ≡ true → many_operators start t i ≡ false
      → i + 1 ≤ length t → Exact (expr inside depth start 11) (stop_at 0) t (i + 1) (unary depth (i + 1)))
      (whole_exact : (i : ℕ) → base ≤ i → i ≤ length t → is (symbol_at t i) symbol.OpenRound ≡ true → depth < 64
      → i + 1 ≤ length t → Exact (expr inside (depth + 1) start 0) stop_whole t (i + 1) (whole_of (depth + 1) (i + 1))) where
    abbrev sign : Rel (ℕ × UnaryOperator)
    sign o = counted start (unary_sign o)

    abbrev bracket : Rel ℕ
    bracket at = opening depth symbol.OpenRound at

    abbrev unary_of_parts : (ℕ × UnaryOperator) × Expr → Expr
    unary_of_parts p = Unary p.0.0 p.0.1 p.1

    abbrev Unary_part : (lifted : Lifted) (x : Text) (i j : ℕ) (c : Expr) → Type 0
    Unary_part lifted x i j c = Part (pair sign (expr inside depth start 11)) (expr inside depth start 11) unary_of_parts lifted x i j c

    leaf_not_unary : (lifted : Lifted) (x : Text) (i j : ℕ) (a : Operand) → leaf inside a lifted x i j → is_unary (symbol_at x i) ≡ false
    leaf_not_unary lifted x i j a ph = operand_not_unary inside (symbol_at x i) (leaf_back inside lifted x i j a ph).0

    unary_back : (i : ℕ) → is_unary (symbol_at t i) ≡ true → (lifted : Lifted) (x : Text) → lexeme_at x i ≡ lexeme_at t i → (c : Expr) (j : ℕ)
        → expr inside depth start 11 c lifted x i j → Unary_part lifted x i j c
    unary_back i h lifted x e (Leaf a) j ph = clash (is_unary (symbol_at x i)) (ap (λ (l : Lexeme). is_unary l.symbol) e ∙ h) (leaf_not_unary lifted x i j a ph)
    unary_back i h lifted x e (Round at d) j ph =
        clash (is_unary (symbol_at t i)) h (ap (λ (a : Lexeme). is_unary a.symbol) (sym e) ∙ (ap is_unary (eqb-true (symbol_at x i) symbol.OpenRound ph.1.1.0) ∙ unary_not_round))
    unary_back i h lifted x e (Unary at s d) j ph = record { part = ((at, s), d); is = refl; phrase = ph }
    unary_back i h lifted x e (Binary l at s r) j ph = clash (leb 11 (level s)) ph.0 (low_level s)
    unary_back i h lifted x e (Conditional c at a b) j ph = absurd (let d : 11 ≡ 0 = eqb-true 11 0 ph.0 in omega arith)

    abbrev round_of_parts : ℕ × Expr → Expr
    round_of_parts p = Round p.0 p.1

    abbrev Round_part : (lifted : Lifted) (x : Text) (i j : ℕ) (c : Expr) → Type 0
    Round_part lifted x i j c = Part (pair bracket (expr inside (depth + 1) start 0 ⊲ symbol.CloseRound)) (expr inside depth start 11) round_of_parts lifted x i j c

    round_back : (i : ℕ) → is (symbol_at t i) symbol.OpenRound ≡ true → (lifted : Lifted) (x : Text) → lexeme_at x i ≡ lexeme_at t i → (c : Expr) (j : ℕ)
        → expr inside depth start 11 c lifted x i j → Round_part lifted x i j c
    round_back i h lifted x e c j ph = by_case c ph where
      opens : symbol_at x i ≡ symbol.OpenRound
      opens = eqb-true (symbol_at x i) symbol.OpenRound (ap (λ (a : Lexeme). is a.symbol symbol.OpenRound) e ∙ h)

      by_case : (c : Expr) → expr inside depth start 11 c lifted x i j → Round_part lifted x i j c
      by_case (Leaf a) ph = clash _ (leaf_back inside lifted x i j a ph).0 (ap (λ (s : ℕ). Rattle.idl_grammar.specs.ReadExpressions.is_operand inside s) opens ∙ operand_not_round inside)
      by_case (Round at d) ph = record { part = (at, d); is = refl; phrase = ph }
      by_case (Unary at s d) ph = clash (is_unary (symbol_at x i)) ph.1.1.0 (ap is_unary opens ∙ unary_not_round)
      by_case (Binary l at s r) ph = clash (leb 11 (level s)) ph.0 (low_level s)
      by_case (Conditional c at a b) ph = absurd (let d : 11 ≡ 0 = eqb-true 11 0 ph.0 in omega arith)

    leaf_only : (i : ℕ) → is_unary (symbol_at t i) ≡ false → is (symbol_at t i) symbol.OpenRound ≡ false
        → (lifted : Lifted) (x : Text) → lexeme_at x i ≡ lexeme_at t i → (c : Expr) (j : ℕ)
        → expr inside depth start 11 c lifted x i j → Part (leaf inside) (expr inside depth start 11) Leaf lifted x i j c
    leaf_only i h g lifted x e (Leaf a) j ph = record { part = a; is = refl; phrase = ph }
    leaf_only i h g lifted x e (Round at d) j ph =
        clash (is (symbol_at t i) symbol.OpenRound) (ap (λ (a : Lexeme). is a.symbol symbol.OpenRound) (sym e) ∙ ph.1.1.0) g
    leaf_only i h g lifted x e (Unary at s d) j ph = clash (is_unary (symbol_at t i)) (ap (λ (a : Lexeme). is_unary a.symbol) (sym e) ∙ ph.1.1.0) h
    leaf_only i h g lifted x e (Binary l at s r) j ph = clash (leb 11 (level s)) ph.0 (low_level s)
    leaf_only i h g lifted x e (Conditional c at a b) j ph = absurd (let d : 11 ≡ 0 = eqb-true 11 0 ph.0 in omega arith)

    close_meets : Meets (Unit {0}) stop_whole (marked symbol.CloseRound) (stop_at 0)
    close_meets lifted x m j b ph stop =
        (ap (λ (s : ℕ). leb 1 (symbol_level s)) ph.0 ∙ ap (λ (n : ℕ). leb 1 n) close_level, ap (λ (s : ℕ). is s symbol.Question) ph.0)

    unary_case : (i : ℕ) → base ≤ i → i ≤ length t → (b c : Bool) → is_unary (symbol_at t i) ≡ b → is (symbol_at t i) symbol.OpenRound ≡ c
        → Exact (expr inside depth start 11) (stop_at 0) t i
        (cond b (turned (λ p. Unary p.0.0 p.0.1 p.1) (and_then (unary_sign_read start t i) (λ s m. unary depth m)))
        (cond c (turned (λ p. Round p.0 p.1) (round_read depth t whole_of i)) (turned Leaf (leaf_read inside t i))))
    unary_case i based in_text true c h g =
        turned_exact (pair sign (expr inside depth start 11)) (expr inside depth start 11) unary_of_parts (λ lifted x i j a ph. ph) (stop_at 0) t i
        (λ lifted x e c j ph stop. unary_back i h lifted x e c j ph) _
        (pair_exact sign (expr inside depth start 11) anything (stop_at 0) (λ lifted x m j b ph stop. tt) (expr_has inside depth start 11) t i
        (unary_sign_read start t i) _
        (ruled_exact Depth (many_operators start) (many_operators_depends start) (λ a. is_unary a.symbol) (λ a. (a.at, unary_of a.symbol)) (of_symbol symbol.Minus) unary_minus unary_real
        (λ lifted x j deep e. inl (deep j (omega arith))) anything t i in_text)
        (λ s n found.
        let on_t = found.phrase (λ _ _. false) t (λ p lt. refl) in
        let not_full : many_operators start t i ≡ false = elim on_t.0 [ inl free ↦ absurd (let e : false ≡ true = free in cc) | inr below ↦ below ] in
        let here : n ≡ i + 1 = on_t.1.2 in
        subst (λ (m : ℕ). Exact (expr inside depth start 11) (stop_at 0) t m (unary depth m)) (sym here) (unary_exact i based in_text h not_full (omega (arith, found.within)))))
    unary_case i based in_text false true h g =
        turned_exact (pair bracket (expr inside (depth + 1) start 0 ⊲ symbol.CloseRound)) (expr inside depth start 11) round_of_parts
        (λ lifted x i j a ph. ph) (stop_at 0) t i
        (λ lifted x e c j ph stop. round_back i g lifted x e c j ph) _
        (pair_exact bracket (expr inside (depth + 1) start 0 ⊲ symbol.CloseRound) anything (stop_at 0) (λ lifted x m j b ph stop. tt)
        (end_has (expr inside (depth + 1) start 0) symbol.CloseRound refl (expr_has inside (depth + 1) start 0)) t i
        (opening_read depth symbol.OpenRound t i) _
        (ruled_exact Depth (many_brackets depth) (λ t x i agrees. refl) (λ a. is a.symbol symbol.OpenRound) (λ a. a.at) (of_symbol symbol.OpenRound) refl refl
        (λ lifted x j deep e. inl (deep j (omega arith))) anything t i in_text)
        (λ at n found.
        let on_t = found.phrase (λ _ _. false) t (λ p lt. refl) in
        let not_full : leb 64 depth ≡ false = elim on_t.0 [ inl free ↦ absurd (let e : false ≡ true = free in cc) | inr below ↦ below ] in
        let room : depth < 64 = leb-false 64 depth not_full in
        let here : n ≡ i + 1 = on_t.1.2 in
        end_meets_exact (expr inside (depth + 1) start 0) symbol.CloseRound stop_whole (stop_at 0) t n refl close_meets (whole_of (depth + 1) n)
        (subst (λ (m : ℕ). Exact (expr inside (depth + 1) start 0) stop_whole t m (whole_of (depth + 1) m)) (sym here) (whole_exact i based in_text g room (omega (arith, found.within))))))
    unary_case i based in_text false false h g =
        turned_exact (leaf inside) (expr inside depth start 11) Leaf (λ lifted x i j a ph. ph) (stop_at 0) t i
        (λ lifted x e c j ph stop. leaf_only i h g lifted x e c j ph) _ (leaf_exact inside (stop_at 0) t i in_text)

    unary_step : (i : ℕ) → base ≤ i → i ≤ length t → Exact (expr inside depth start 11) (stop_at 0) t i (unary_read inside start depth t unary whole_of i)
    unary_step i based in_text = unary_case i based in_text (is_unary (symbol_at t i)) (is (symbol_at t i) symbol.OpenRound) refl refl

  -- ## all of it

  -- nesting passes a bracket or an operator each time, so 129 levels are enough
  abbrev pub Enough : Text → ℕ → ℕ → ℕ → Type 0
  Enough t f depth i = 129 ≤ f + (depth + min 64 (operators t start i))

  abbrev Both : Text → ℕ → ℕ → ℕ → Type 0
  Both t f depth i =
      Exact (expr inside depth start 11) (stop_at 0) t i (expr_read f inside start t false depth i) × Exact (expr inside depth start 0) stop_whole t i (expr_read f inside start t true depth i)

  module _ (t : Text) (f depth i : ℕ) (shallow : depth ≤ 64) (started : start ≤ i) (enough : Enough t (suc f) depth i)
      (again : (d m : ℕ) → d ≤ 64 → start ≤ m → m ≤ length t → Enough t f d m → Both t f d m) where
    later : (p m : ℕ) → i ≤ p → p < m → is_operator (symbol_at t p) ≡ true → many_operators start t p ≡ false → Enough t f depth m
    later p m based after op not_full =
        let risen : operators t start i ≤ operators t start p = operators_rise t start i p based in
        let below : operators t start p < 64 = few_operators t start p not_full in
        let stepped : operators t start (p + 1) ≡ operators t start p + 1 = operators_step t start p (omega arith) op in
        let onward : operators t start (p + 1) ≤ operators t start m = operators_rise t start (p + 1) m (omega arith) in
        omega arith

    deeper : (p : ℕ) → i ≤ p → Enough t f (depth + 1) (p + 1)
    deeper p based = let risen : operators t start i ≤ operators t start (p + 1) = operators_rise t start i (p + 1) (omega arith) in omega arith

    unary_all : (p : ℕ) → i ≤ p → p ≤ length t
        → Exact (expr inside depth start 11) (stop_at 0) t p (unary_read inside start depth t (expr_read f inside start t false) (expr_read f inside start t true) p)
    unary_all =
        unary_step t depth i f started shallow (expr_read f inside start t false) (expr_read f inside start t true)
        (λ p based in_t h not_full more_of. (again depth (p + 1) shallow (omega arith) more_of (later p (p + 1) based (omega arith) (operator_of_unary (symbol_at t p) h) not_full)).0)
        (λ p based in_t h room more_of. (again (depth + 1) (p + 1) (omega arith) (omega arith) more_of (deeper p based)).1)

    expr_step : i ≤ length t → Both t (suc f) depth i
    expr_step in_text = (
      unary_all i (omega arith) in_text,
      cond_exact depth t i (level_read start t (unary_read inside start depth t (expr_read f inside start t false) (expr_read f inside start t true)) 10) (expr_read f inside start t true depth)
          (level_exact t depth i (unary_read inside start depth t (expr_read f inside start t false) (expr_read f inside start t true)) unary_all 10 (omega arith))
          (λ p based in_t h not_full m after in_m. (again depth m shallow (omega arith) in_m (later p m based after (operator_of_question (symbol_at t p) h) not_full)).1)
          i (omega arith) in_text,
    )

  pub expr_exact : (t : Text) (f depth i : ℕ) → depth ≤ 64 → start ≤ i → i ≤ length t → Enough t f depth i → Both t f depth i
  expr_exact t zero depth i shallow started in_text enough = absurd (omega arith)
  expr_exact t (suc f) depth i shallow started in_text enough =
      expr_step t f depth i shallow started enough (λ d m h s w e. expr_exact t f d m h s w e) in_text
