-- Which numbers from 1 to n are reached from some, along edges, is decided by levels: at each level those that were reached before, and those
-- to which an edge goes from one of them. A level after which no number comes is there before n + 1 levels are over.
-- `starts` is a test of a number, `goes` a test of two, `f` and `g` are tests, `b` and `c` numbers, `k` and `l` levels or numbers up to which one goes.
use Rattle.std.proofs.Common.{◌≡◌, ℕ, ◌+◌, ◌<◌, ◌≤◌, zero, suc, Bool, true, false, ◌&&◌, ◌||◌, eqb, ◌≢◌, refl, ap, sym, ◌∙◌, subst, inl, inr, ◌⊎◌, arith}
use Rattle.std.proofs.lemmas.Bool.{and_parts, and_from, or_left, or_right, or_cases, cases_lt}
use Rattle.std.proofs.lemmas.Bool.Decides.{eqb_tells}

-- how many numbers from 1 to k pass a test
abbrev one : Bool → ℕ
one true = 1
one false = 0

abbrev passing : (ℕ → Bool) → ℕ → ℕ
passing f zero = 0
passing f (suc k) = one (f (suc k)) + passing f k

one_most : (a : Bool) → one a ≤ 1
one_most true = omega arith
one_most false = omega arith

passing_most : (f : ℕ → Bool) (k : ℕ) → passing f k ≤ k
passing_most f zero = omega arith
passing_most f (suc k) = let a = one_most (f (suc k)) in let b = passing_most f k in omega (arith, a, b)

one_up : (a b : Bool) → (a ≡ true → b ≡ true) → one a ≤ one b
one_up true true h = omega arith
one_up true false h = let e : false ≡ true = h refl in cc
one_up false true h = omega arith
one_up false false h = omega arith

one_same : (a b : Bool) → one a ≡ one b → a ≡ b
one_same true true h = refl
one_same true false h = absurd (omega (arith, h))
one_same false true h = absurd (omega (arith, h))
one_same false false h = refl

module _ (f g : ℕ → Bool) (up : (b : ℕ) → f b ≡ true → g b ≡ true) where
  passing_up : (k : ℕ) → passing f k ≤ passing g k
  passing_up zero = omega arith
  passing_up (suc k) = let a = one_up (f (suc k)) (g (suc k)) (up (suc k)) in let b = passing_up k in omega (arith, a, b)

  -- tests that as many pass are passed by the same
  passing_same : (k : ℕ) → passing g k ≤ passing f k → (b : ℕ) → 0 < b → b ≤ k → f b ≡ g b
  passing_same zero h b low high = absurd (omega (arith, low, high))
  passing_same (suc k) h b low high =
      let a = one_up (f (suc k)) (g (suc k)) (up (suc k)) in
      let r = passing_up k in
      go (eqb_tells b (suc k)) (one_same (f (suc k)) (g (suc k)) (omega (arith, a, r, h))) (passing_same k (omega (arith, a, r, h)) b low)
    where
      go : ((eqb b (suc k) ≡ true) × (b ≡ suc k)) ⊎ ((eqb b (suc k) ≡ false) × (b ≢ suc k)) → f (suc k) ≡ g (suc k) → (b ≤ k → f b ≡ g b) → f b ≡ g b
      go (inl e) same less = ap f e.1 ∙ same ∙ ap g (sym e.1)
      go (inr e) same less = less (omega (arith, high, e.1))

module _ (starts : ℕ → Bool) (goes : ℕ → ℕ → Bool) (n : ℕ) where
  -- an edge goes to c from a number from 1 to k that passes
  abbrev pub gone : (ℕ → Bool) → ℕ → ℕ → Bool
  gone f c zero = false
  gone f c (suc k) = (f (suc k) && goes (suc k) c) || gone f c k

  abbrev pub level : ℕ → ℕ → Bool
  level zero c = starts c
  level (suc l) c = level l c || gone (level l) c n

  gone_there : (f : ℕ → Bool) (c k b : ℕ) → 0 < b → b ≤ k → f b ≡ true → goes b c ≡ true → gone f c k ≡ true
  gone_there f c zero b low high h e = absurd (omega (arith, low, high))
  gone_there f c (suc k) b low high h e = go (eqb_tells b (suc k)) (λ to. gone_there f c k b low to h e)
    where
      go : ((eqb b (suc k) ≡ true) × (b ≡ suc k)) ⊎ ((eqb b (suc k) ≡ false) × (b ≢ suc k)) → (b ≤ k → gone f c k ≡ true) → gone f c (suc k) ≡ true
      go (inl m) rest =
          or_left (f (suc k) && goes (suc k) c) (gone f c k)
          (and_from (f (suc k)) (goes (suc k) c) (subst (λ (x : ℕ). f x ≡ true) m.1 h) (subst (λ (x : ℕ). goes x c ≡ true) m.1 e))
      go (inr m) rest = or_right (f (suc k) && goes (suc k) c) (gone f c k) (rest (omega (arith, high, m.1)))

  pub gone_from : (f : ℕ → Bool) (c k : ℕ) → gone f c k ≡ true → (b : ℕ) × (0 < b) × (b ≤ k) × (f b ≡ true) × (goes b c ≡ true)
  gone_from f c zero h = cc
  gone_from f c (suc k) h = go (or_cases (f (suc k) && goes (suc k) c) (gone f c k) h) (gone_from f c k)
    where
      go : ((f (suc k) && goes (suc k) c) ≡ true) ⊎ (gone f c k ≡ true) → (gone f c k ≡ true → (b : ℕ) × (0 < b) × (b ≤ k) × (f b ≡ true) × (goes b c ≡ true))
          → (b : ℕ) × (0 < b) × (b ≤ suc k) × (f b ≡ true) × (goes b c ≡ true)
      go (inl m) rest = let p = and_parts (f (suc k)) (goes (suc k) c) m in (suc k, omega arith, omega arith, p.0, p.1)
      go (inr m) rest = let (b, low, high, x, y) = rest m in (b, low, omega (arith, high), x, y)

  pub level_on : (l b c : ℕ) → 0 < b → b ≤ n → level l b ≡ true → goes b c ≡ true → level (suc l) c ≡ true
  level_on l b c low high h e = or_right (level l c) (gone (level l) c n) (gone_there (level l) c n b low high h e)

  level_up : (l c : ℕ) → level l c ≡ true → level (suc l) c ≡ true
  level_up l c h = or_left (level l c) (gone (level l) c n) h

  abbrev pub IsLast : ℕ → Type 0
  IsLast l = (c : ℕ) → 0 < c → c ≤ n → level l c ≡ level (suc l) c

  last_or_more : (l : ℕ) → ((k : ℕ) × IsLast k) ⊎ (l ≤ passing (level l) n)
  last_or_more zero = inr (omega arith)
  last_or_more (suc l) = go (last_or_more l)
    where
      more : l ≤ passing (level l) n → (passing (level l) n < passing (level (suc l)) n) ⊎ (passing (level (suc l)) n ≤ passing (level l) n)
          → ((k : ℕ) × IsLast k) ⊎ (suc l ≤ passing (level (suc l)) n)
      more h (inl m) = inr (omega (arith, h, m))
      more h (inr m) = inl (l, passing_same (level l) (level (suc l)) (level_up l) n m)

      go : ((k : ℕ) × IsLast k) ⊎ (l ≤ passing (level l) n) → ((k : ℕ) × IsLast k) ⊎ (suc l ≤ passing (level (suc l)) n)
      go (inl k) = inl k
      go (inr h) = more h (cases_lt (passing (level l) n) (passing (level (suc l)) n))

  pub last_level : (k : ℕ) × IsLast k
  last_level = go (last_or_more (suc n))
    where
      go : ((k : ℕ) × IsLast k) ⊎ (suc n ≤ passing (level (suc n)) n) → (k : ℕ) × IsLast k
      go (inl k) = k
      go (inr h) = let m = passing_most (level (suc n)) n in absurd (omega (arith, h, m))

  started : (k c : ℕ) → starts c ≡ true → level k c ≡ true
  started zero c h = h
  started (suc k) c h = level_up k c (started k c h)

  -- what any level has, the last one has
  pub in_last : (k : ℕ) → IsLast k → (l c : ℕ) → 0 < c → c ≤ n → level l c ≡ true → level k c ≡ true
  in_last k last zero c low high h = started k c h
  in_last k last (suc l) c low high h = go (or_cases (level l c) (gone (level l) c n) h) (in_last k last l)
    where
      go : (level l c ≡ true) ⊎ (gone (level l) c n ≡ true) → ((b : ℕ) → 0 < b → b ≤ n → level l b ≡ true → level k b ≡ true) → level k c ≡ true
      go (inl m) before = before c low high m
      go (inr m) before =
          let (b, from, to, x, y) = gone_from (level l) c n m in
          last c low high ∙ level_on k b c from to (before b from to x) y
