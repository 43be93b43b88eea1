-- A loop that gathers the items of a list.
use Rattle.std.proofs.Common.{◌≡◌, ℕ, zero, suc, ◌+◌, ◌<◌, ◌≤◌, Bool, true, false, List, [], ◌∷◌, ◌++◌, length, refl, sym, ap, arith, ◌∙◌, cond, Ok, Err, append_assoc, append-nil}
use Rattle.idl_grammar.specs.Text.{Lexeme, Text, lexeme_at}
use Rattle.idl_grammar.specs.declared.refusal.Refusal.{Refusal}
use Rattle.idl_grammar.specs.ReadPhrases.{Read, and_then, join, turned, many_read}
use Rattle.idl_grammar.specs.Gives.{Fails}
use Rattle.idl_grammar.proofs.Fails.{fails_equal, fails_is}

-- what is read in all is what is in front, and what is read from here on
pub record Gathered {A : Type 0} (go : Lexeme → Bool) (item : ℕ → Read A) (t : Text) (all : Read (List A)) (in_front : List A) (m : ℕ) : Type 0 where
  pub fuel : ℕ
  pub enough : length t < fuel + m
  pub within : m ≤ length t
  pub is : all ≡ turned (λ l. in_front ++ l) (many_read go item t fuel m)

module _ {A : Type 0} (go : Lexeme → Bool) (item : ℕ → Read A) (t : Text) (all : Read (List A)) (in_front : List A) (m : ℕ) (b : Gathered go item t all in_front m) where
  abbrev here : ℕ → Read A → Read (List A)
  here n r = turned (λ l. in_front ++ l) (turned (λ p. p.0 ∷ p.1) (and_then r (λ a k. many_read go item t n k)))

  step : go (lexeme_at t m) ≡ true → (n : ℕ) × (length t < suc n + m) × (all ≡ here n (item m))
  step h = by_fuel b.fuel b.enough b.is where
    by_fuel : (n : ℕ) → length t < n + m → all ≡ turned (λ l. in_front ++ l) (many_read go item t n m) → (n : ℕ) × (length t < suc n + m) × (all ≡ here n (item m))
    by_fuel zero enough is = absurd (omega (arith, b.within))
    by_fuel (suc n) enough is = (n, enough, is ∙ ap (λ (v : Bool). turned (λ l. in_front ++ l) (cond v (turned (λ p. p.0 ∷ p.1) (and_then (item m) (λ a k. many_read go item t n k))) (Ok ([], m)))) h)

  pub gathers : go (lexeme_at t m) ≡ true → (a : A) (q : ℕ) → item m ≡ Ok (a, q) → m < q → q ≤ length t → Gathered go item t all (in_front ++ a ∷ []) q
  gathers h a q e forward within =
      let one = step h in
      record {
        fuel = one.0;
        enough = omega (arith, one.1);
        within = within;
        is = one.2 ∙ (ap (λ (r : Read A). here one.0 r) e ∙ regrouped (many_read go item t one.0 q));
      } where
        regrouped : (r : Read (List A)) → turned (λ l. in_front ++ l) (turned (λ p. p.0 ∷ p.1) (join a r)) ≡ turned (λ l. (in_front ++ a ∷ []) ++ l) r
        regrouped (Err f) = refl
        regrouped (Ok x) = ap (λ (l : List A). Ok (l, x.1)) (sym (append_assoc in_front (a ∷ []) x.0))

  pub gathering_fails : go (lexeme_at t m) ≡ true → (x : Refusal) → Fails x (item m) → Fails x all
  gathering_fails h x f = let one = step h in fails_is x _ _ one.2 (fails_equal (λ r. here one.0 r) (λ _. refl) x _ f)

  pub gathered : go (lexeme_at t m) ≡ false → all ≡ Ok (in_front, m)
  gathered h = by_fuel b.fuel b.is where
    ended : turned (λ l. in_front ++ l) (Ok ([], m)) ≡ Ok (in_front, m)
    ended = ap (λ (l : List A). Ok (l, m)) (append-nil in_front)

    by_fuel : (n : ℕ) → all ≡ turned (λ l. in_front ++ l) (many_read go item t n m) → all ≡ Ok (in_front, m)
    by_fuel zero is = is ∙ ended
    by_fuel (suc n) is = is ∙ (ap (λ (v : Bool). turned (λ l. in_front ++ l) (cond v (turned (λ p. p.0 ∷ p.1) (and_then (item m) (λ a k. many_read go item t n k))) (Ok ([], m)))) h ∙ ended)
