-- Readings of expressions at numbers that are not 0, and the loop over the operators of a level.
use Rattle.std.proofs.Common.{◌≡◌, ◌≢◌, ℕ, zero, suc, ◌+◌, ◌-◌, ◌<◌, ◌≤◌, Bool, true, false, List, [], ◌∷◌, length, refl, sym, ap, arith, ◌∙◌, eqb, eq-eqb, cond, Ok, Err, ◌⊎◌, inl, inr}
use Rattle.std.proofs.lemmas.Bool.Decides.{eqb_tells}
use Rattle.idl_grammar.specs.declared.refusal.Refusal.{Refusal}
use Rattle.idl_grammar.specs.Text.{Text, symbol_at, is}
use Rattle.idl_grammar.specs.ReadPhrases.{Read, and_then, join, turned, many_read}
use Rattle.idl_grammar.specs.Gives.{Fails}
use Rattle.idl_grammar.proofs.Fails.{fails_equal, fails_is}
use Rattle.idl_grammar.specs.declared.expressions.BinaryOperator.{BinaryOperator}
use Rattle.idl_grammar.specs.declared.expressions.Operand.{Operand}
use Rattle.idl_grammar.specs.Symbols as symbol
use Rattle.idl_grammar.specs.Expressions.{symbol_level, is_unary}
use Rattle.idl_grammar.specs.Tree.{Expr, Binary, Leaf}
use Rattle.idl_grammar.specs.ReadExpressions.{leaf_read, fold, operation_read, level_read, conditional_read, unary_read, expr_read}

pub unary_is : (f : ℕ) (inside : Bool) (start : ℕ) (t : Text) (depth i : ℕ) → 0 < f
    → expr_read f inside start t false depth i ≡ unary_read inside start depth t (expr_read (f - 1) inside start t false) (expr_read (f - 1) inside start t true) i
unary_is zero inside start t depth i h = absurd (omega (arith, h))
unary_is (suc f) inside start t depth i h =
    let e : suc f - 1 ≡ f = omega arith in
    ap (λ (g : ℕ). unary_read inside start depth t (expr_read g inside start t false) (expr_read g inside start t true) i) (sym e)

pub conditional_is : (f : ℕ) (inside : Bool) (start : ℕ) (t : Text) (depth i : ℕ) → 0 < f
    → expr_read f inside start t true depth i ≡ conditional_read start t (level_read start t (expr_read f inside start t false depth) 10) (expr_read (f - 1) inside start t true depth) i
conditional_is zero inside start t depth i h = absurd (omega (arith, h))
conditional_is (suc f) inside start t depth i h =
    let e : suc f - 1 ≡ f = omega arith in
    ap (λ (g : ℕ). conditional_read start t (level_read start t (expr_read (suc f) inside start t false depth) 10) (expr_read g inside start t true depth) i) (sym e)

pub leaf_reads : (f : ℕ) (inside : Bool) (start : ℕ) (t : Text) (depth i : ℕ) (a : Operand) (m : ℕ) → 0 < f → is_unary (symbol_at t i) ≡ false → is (symbol_at t i) symbol.OpenRound ≡ false
    → leaf_read inside t i ≡ Ok (a, m) → expr_read f inside start t false depth i ≡ Ok (Leaf a, m)
leaf_reads f inside start t depth i a m h no_unary no_round reads =
    unary_is f inside start t depth i h ∙ rw (no_unary, no_round) (ap (λ (r : Read Operand). turned Leaf r) reads)

-- an operator of a rank and its right operand
abbrev pub operand_read : ℕ → Text → (ℕ → Read Expr) → ℕ → ℕ → Read ((ℕ × BinaryOperator) × Expr)
operand_read start t unary k i = operation_read (11 - k) start t (level_read start t unary (k - 1)) i

-- the operators of a rank and what follows each
abbrev pub ops_read : ℕ → Text → (ℕ → Read Expr) → ℕ → ℕ → ℕ → Read (List ((ℕ × BinaryOperator) × Expr))
ops_read start t unary k n i = many_read (λ a. eqb (symbol_level a.symbol) (11 - k)) (operand_read start t unary k) t n i

-- what is read after a left side
abbrev pub behind : ℕ → Text → (ℕ → Read Expr) → ℕ → Expr → ℕ → ℕ → Read Expr
behind start t unary k e n i = turned (fold e) (ops_read start t unary k n i)

level_is : (start : ℕ) (t : Text) (unary : ℕ → Read Expr) (k i : ℕ) → 0 < k → k ≤ 10
    → level_read start t unary k i ≡ turned (λ p. fold p.0 p.1) (and_then (level_read start t unary (k - 1) i) (λ e m. ops_read start t unary k (suc (length t)) m))
level_is start t unary zero i h low = absurd (omega (arith, h))
level_is start t unary (suc k) i h low =
    let e : k ≡ suc k - 1 = omega arith in
    let d : 10 - k ≡ 11 - suc k = omega arith in
    ap (λ (p : ℕ × ℕ). turned (λ q. fold q.0 q.1)
    (and_then (level_read start t unary p.0 i) (λ e m. many_read (λ a. eqb (symbol_level a.symbol) p.1) (operation_read p.1 start t (level_read start t unary p.0)) t (suc (length t)) m)))
    (let both : ◌≡◌ {A = ℕ × ℕ} (k, 10 - k) (suc k - 1, 11 - suc k) = cc in both)

fold_join : (e : Expr) (r : Read (List ((ℕ × BinaryOperator) × Expr))) → turned (λ p. fold p.0 p.1) (join e r) ≡ turned (fold e) r
fold_join e (Ok x) = refl
fold_join e (Err f) = refl

pub level_begins : (start : ℕ) (t : Text) (unary : ℕ → Read Expr) (k i : ℕ) (e : Expr) (m : ℕ) → 0 < k → k ≤ 10 → level_read start t unary (k - 1) i ≡ Ok (e, m)
    → level_read start t unary k i ≡ behind start t unary k e (suc (length t)) m
level_begins start t unary k i e m h low first =
    level_is start t unary k i h low
    ∙ (ap (λ (r : Read Expr). turned (λ p. fold p.0 p.1) (and_then r (λ e m. ops_read start t unary k (suc (length t)) m))) first
    ∙ fold_join e (ops_read start t unary k (suc (length t)) m))

-- A loop over the operators of a rank: what is read from the start is what is read after the left side.
pub record Behind (start : ℕ) (t : Text) (unary : ℕ → Read Expr) (k i : ℕ) (e : Expr) (m : ℕ) : Type 0 where
  pub fuel : ℕ
  pub enough : length t < fuel + m
  pub after : i < m
  pub within : m ≤ length t
  pub is : level_read start t unary k i ≡ behind start t unary k e fuel m

module _ (start : ℕ) (t : Text) (unary : ℕ → Read Expr) (k i : ℕ) (e : Expr) (m : ℕ) (b : Behind start t unary k i e m) where
  -- the operators after, where one stands here
  abbrev here_read : ℕ → Read ((ℕ × BinaryOperator) × Expr) → Read Expr
  here_read n r = turned (fold e) (turned (λ p. p.0 ∷ p.1) (and_then r (λ a p. ops_read start t unary k n p)))

  one_more : symbol_level (symbol_at t m) ≡ 11 - k → (n : ℕ) × (length t < suc n + m) × (level_read start t unary k i ≡ here_read n (operand_read start t unary k m))
  one_more h = by_fuel b.fuel b.enough b.is where
    by_fuel : (n : ℕ) → length t < n + m → level_read start t unary k i ≡ behind start t unary k e n m
        → (n : ℕ) × (length t < suc n + m) × (level_read start t unary k i ≡ here_read n (operand_read start t unary k m))
    by_fuel zero enough is = absurd (omega (arith, b.within, enough))
    by_fuel (suc n) enough is = (
      n,
      enough,
      is
          ∙ ap (λ (v : Bool). turned (fold e) (cond v (turned (λ p. p.0 ∷ p.1) (and_then (operand_read start t unary k m) (λ a p. ops_read start t unary k n p))) (Ok ([], m)))) (eq-eqb _ _ h),
    )

  pub stops : symbol_level (symbol_at t m) ≢ 11 - k → level_read start t unary k i ≡ Ok (e, m)
  stops h = by_fuel b.fuel b.is where
    not_one : eqb (symbol_level (symbol_at t m)) (11 - k) ≡ false
    not_one = elim (eqb_tells (symbol_level (symbol_at t m)) (11 - k)) as (λ _. eqb (symbol_level (symbol_at t m)) (11 - k) ≡ false) [ inl eq ↦ absurd (h eq.1) | inr ne ↦ ne.0 ]

    by_fuel : (n : ℕ) → level_read start t unary k i ≡ behind start t unary k e n m → level_read start t unary k i ≡ Ok (e, m)
    by_fuel zero is = is
    by_fuel (suc n) is =
        is ∙ ap (λ (v : Bool). turned (fold e) (cond v (turned (λ p. p.0 ∷ p.1) (and_then (operand_read start t unary k m) (λ a p. ops_read start t unary k n p))) (Ok ([], m)))) not_one

  pub fails_operation : symbol_level (symbol_at t m) ≡ 11 - k → (x : Refusal) → Fails x (operand_read start t unary k m) → Fails x (level_read start t unary k i)
  fails_operation h x f = let one = one_more h in fails_is x _ _ one.2 (fails_equal (λ r. here_read one.0 r) (λ _. refl) x _ f)

  pub goes_on : symbol_level (symbol_at t m) ≡ 11 - k → (at : ℕ) (s : BinaryOperator) (r : Expr) (q : ℕ) → operand_read start t unary k m ≡ Ok (((at, s), r), q) → m < q → q ≤ length t
      → Behind start t unary k i (Binary e at s r) q
  goes_on h at s r q right forward within =
      let one = one_more h in
      record {
        fuel = one.0;
        enough = omega (arith, one.1, forward);
        after = omega (arith, b.after, forward);
        within = within;
        is = one.2 ∙ (ap (λ (v : Read ((ℕ × BinaryOperator) × Expr)). here_read one.0 v) right ∙ folded (ops_read start t unary k one.0 q));
      } where
        folded : (v : Read (List ((ℕ × BinaryOperator) × Expr))) → turned (fold e) (turned (λ p. p.0 ∷ p.1) (join ((at, s), r) v)) ≡ turned (fold (Binary e at s r)) v
        folded (Ok x) = refl
        folded (Err f) = refl
