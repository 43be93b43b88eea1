-- An expression of a level is one of the next level with operators of this level after it.
use Rattle.std.proofs.Common.{◌≡◌, ℕ, ◌+◌, ◌≤◌, Bool, true, false, List, [], ◌∷◌, ◌++◌, refl, sym, ap, subst, arith, ◌∙◌, leb, eqb, cond, ◌⊎◌, inl, inr, eq-eqb}
use Rattle.std.proofs.lemmas.Bool.{leb-true, le-leb, eqb-true}
use Rattle.std.proofs.lemmas.Bool.Decides.{eqb_tells}
use Rattle.std.specs.Prelude.{◌≢◌}
use Rattle.nd_lemmas.proofs.Booleans.{clash}
use Rattle.idl_grammar.specs.Text.{Text, symbol_at, Lifted, Rel, Depth, many, token, unless}
use Rattle.idl_grammar.proofs.Exact.{pair}
use Rattle.idl_grammar.specs.declared.expressions.BinaryOperator.{BinaryOperator}
use Rattle.idl_grammar.specs.Expressions.{level, symbol_level, binary_of, many_operators, expr, counted, binary_sign}
use Rattle.idl_grammar.specs.Tree.{Expr, Leaf, Round, Unary, Binary, Conditional}
use Rattle.idl_grammar.specs.ReadExpressions.{fold}

-- an operator and its octet
abbrev pub Sign : Type 0
Sign = ℕ × BinaryOperator

level_case : (b : Bool) (n : ℕ) → leb 1 (cond b n 0) ≡ true → cond b n 0 ≡ n
level_case true n h = refl
level_case false n h = clash false h refl

-- the level of a symbol is that of the operator that it stands for
pub level_of_sign : (s : ℕ) → leb 1 (symbol_level s) ≡ true → symbol_level s ≡ level (binary_of s)
unfolding symbol_level
level_of_sign s h = level_case _ (level (binary_of s)) h

-- an operator of one level
abbrev pub at_level : ℕ → ℕ → Rel Sign
at_level start n o = unless Depth (many_operators start) (token (λ a. eqb (symbol_level a.symbol) n) (λ a. (a.at, binary_of a.symbol)) o)

abbrev pub item : (inside : Bool) (depth start n : ℕ) → Rel (Sign × Expr)
item inside depth start n = pair (at_level start n) (expr inside depth start (n + 1))

pub record Chain (inside : Bool) (depth start n : ℕ) (lifted : Lifted) (x : Text) (i j : ℕ) (c : Expr) : Type 0 where
  pub head : Expr
  pub ops : List (Sign × Expr)
  pub mid : ℕ
  pub is : c ≡ fold head ops
  pub first : expr inside depth start (n + 1) head lifted x i mid
  pub others : many (item inside depth start n) ops lifted x mid j

module _ (inside : Bool) (depth start n : ℕ) (low : 1 ≤ n) (lifted : Lifted) (x : Text) where
  many_more : (os : List (Sign × Expr)) (o : Sign × Expr) (i m j : ℕ) → many (item inside depth start n) os lifted x i m → item inside depth start n o lifted x m j
      → many (item inside depth start n) (os ++ o ∷ []) lifted x i j
  many_more [] o i m j ph last = (j, subst (λ (k : ℕ). item inside depth start n o lifted x k j) ph last, refl)
  many_more (p ∷ os) o i m j ph last = (ph.0, ph.1, many_more os o ph.0 m j ph.2 last)

  fold_more : (e : Expr) (os : List (Sign × Expr)) (o : Sign) (r : Expr) → fold e (os ++ (o, r) ∷ []) ≡ Binary (fold e os) o.0 o.1 r
  fold_more e [] o r = refl
  fold_more e (p ∷ os) o r = fold_more (Binary e p.0.0 p.0.1 p.1) os o r

  operator_in : (o : Sign) (i j : ℕ) → level o.1 ≡ n → counted start (binary_sign o) lifted x i j → at_level start n o lifted x i j
  operator_in o i j h ph =
      let e : symbol_level (symbol_at x i) ≡ n = level_of_sign (symbol_at x i) ph.1.0 ∙ (ap (λ (p : Sign). level p.1) (sym ph.1.1) ∙ h) in
      (ph.0, (eq-eqb (symbol_level (symbol_at x i)) n e, ph.1.1, ph.1.2))

  operator_out : (o : Sign) (i j : ℕ) → at_level start n o lifted x i j → (level o.1 ≡ n) × counted start (binary_sign o) lifted x i j
  operator_out o i j ph =
      let e : symbol_level (symbol_at x i) ≡ n = eqb-true (symbol_level (symbol_at x i)) n ph.1.0 in
      let real : leb 1 (symbol_level (symbol_at x i)) ≡ true = le-leb 1 (symbol_level (symbol_at x i)) (omega arith) in
      (ap (λ (p : Sign). level p.1) ph.1.1 ∙ (sym (level_of_sign (symbol_at x i) real) ∙ e), (ph.0, (real, ph.1.1, ph.1.2)))

  pub split : (c : Expr) (i j : ℕ) → expr inside depth start n c lifted x i j → Chain inside depth start n lifted x i j c
  split (Leaf a) i j ph = record { head = Leaf a; ops = []; mid = j; is = refl; first = ph; others = refl }
  split (Round at e) i j ph = record { head = Round at e; ops = []; mid = j; is = refl; first = ph; others = refl }
  split (Unary at s e) i j ph = record { head = Unary at s e; ops = []; mid = j; is = refl; first = ph; others = refl }
  split (Binary l at s r) i j ph = by_level (eqb_tells (level s) n) (split l i ph.1.0) where
    same_level : level s ≡ n → Chain inside depth start n lifted x i ph.1.0 l → Chain inside depth start n lifted x i j (Binary l at s r)
    same_level e c = record {
      head = c.head;
      ops = c.ops ++ ((at, s), r) ∷ [];
      mid = c.mid;
      is = ap (λ (k : Expr). Binary k at s r) c.is ∙ sym (fold_more c.head c.ops (at, s) r);
      first = c.first;
      others = many_more c.ops ((at, s), r) c.mid ph.1.0 j c.others
          (ph.1.2.0, operator_in (at, s) ph.1.0 ph.1.2.0 e ph.1.2.1, subst (λ (k : ℕ). expr inside depth start (k + 1) r lifted x ph.1.2.0 j) e ph.1.2.2);
    }

    by_level : ((eqb (level s) n ≡ true) × (level s ≡ n)) ⊎ ((eqb (level s) n ≡ false) × (level s ≢ n))
        → (expr inside depth start n l lifted x i ph.1.0 → Chain inside depth start n lifted x i ph.1.0 l) → Chain inside depth start n lifted x i j (Binary l at s r)
    by_level (inl e) rest = same_level e.1 (rest (subst (λ (k : ℕ). expr inside depth start k l lifted x i ph.1.0) e.1 ph.1.1))
    by_level (inr ne) rest =
        let le : n ≤ level s = leb-true n (level s) ph.0 in
        let differs : level s ≢ n = ne.1 in
        record { head = Binary l at s r; ops = []; mid = j; is = refl; first = (le-leb (n + 1) (level s) (omega arith), ph.1); others = refl }
  split (Conditional c at a b) i j ph = absurd (let e : n ≡ 0 = eqb-true n 0 ph.0 in omega arith)

  loosen : (c : Expr) (i j : ℕ) → expr inside depth start (n + 1) c lifted x i j → expr inside depth start n c lifted x i j
  loosen (Leaf a) i j ph = ph
  loosen (Round at e) i j ph = ph
  loosen (Unary at s e) i j ph = ph
  loosen (Binary l at s r) i j ph = let le : n + 1 ≤ level s = leb-true (n + 1) (level s) ph.0 in (le-leb n (level s) (omega arith), ph.1)
  loosen (Conditional c at a b) i j ph = absurd (let e : n + 1 ≡ 0 = eqb-true (n + 1) 0 ph.0 in omega arith)

  grow : (ops : List (Sign × Expr)) (e : Expr) (i m j : ℕ) → expr inside depth start n e lifted x i m → many (item inside depth start n) ops lifted x m j
      → expr inside depth start n (fold e ops) lifted x i j
  grow [] e i m j ph others = subst (λ (k : ℕ). expr inside depth start n e lifted x i k) (sym others) ph
  grow (o ∷ ops) e i m j ph others =
      let it = others.1 in
      let op = operator_out o.0 m it.0 it.1 in
      let here : level o.0.1 ≡ n = op.0 in
      grow ops (Binary e o.0.0 o.0.1 o.1) i others.0 j (
        le-leb n (level o.0.1) (omega arith),
        (
          m,
          subst (λ (k : ℕ). expr inside depth start k e lifted x i m) (sym here) ph,
          (it.0, op.1, subst (λ (k : ℕ). expr inside depth start (k + 1) o.1 lifted x it.0 others.0) (sym here) it.2),
        ),
      )
      others.2

  pub whole : (head : Expr) (ops : List (Sign × Expr)) (i m j : ℕ) → expr inside depth start (n + 1) head lifted x i m → many (item inside depth start n) ops lifted x m j
      → expr inside depth start n (fold head ops) lifted x i j
  whole head ops i m j first others = grow ops head i m j (loosen head i m first) others
