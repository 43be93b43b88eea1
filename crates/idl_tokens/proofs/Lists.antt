-- How the loops begin that gather lists.
use Rattle.std.proofs.Common.{◌≡◌, ℕ, suc, ◌<◌, ◌≤◌, Bool, true, false, ◌||◌, List, [], ◌∷◌, ◌++◌, length, refl, ap, arith, ◌∙◌, Ok, Err}
use Rattle.idl_grammar.specs.Text.{Lexeme, Text, symbol_at, is, is_in}
use Rattle.idl_grammar.specs.ReadPhrases.{Read, and_then, join, turned, many_read, list_read, some_read, behind_read, separated_read}
use Rattle.idl_grammar.proofs.Gathered.{Gathered}

-- one symbol alone
pub alone : (t : Text) (m s : ℕ) (b : Bool) → is (symbol_at t m) s ≡ b → is_in (s ∷ []) (symbol_at t m) ≡ b
alone t m s true h = ap (λ (c : Bool). c || false) h
alone t m s false h = ap (λ (c : Bool). c || false) h

first_gathered : {A : Type 0} (go : Lexeme → Bool) (item : ℕ → Read A) (t : Text) (r : Read A) (first : A) (m : ℕ) → m ≤ length t → r ≡ Ok (first, m)
    → Gathered go item t (turned (λ p. p.0 ∷ p.1) (and_then r (λ a k. many_read go item t (suc (length t)) k))) (first ∷ []) m
first_gathered {A = A} go item t r first m h e = record {
  fuel = suc (length t);
  enough = omega arith;
  within = h;
  is = ap (λ (r : Read A). turned (λ p. p.0 ∷ p.1) (and_then r (λ a k. many_read go item t (suc (length t)) k))) e ∙ front_is (many_read go item t (suc (length t)) m);
} where
  front_is : (r : Read (List A)) → turned (λ p. p.0 ∷ p.1) (join first r) ≡ turned (λ l. (first ∷ []) ++ l) r
  front_is (Ok x) = refl
  front_is (Err f) = refl

pub separated_begins : {A : Type 0} (s : ℕ) (t : Text) (item : ℕ → Read A) (i : ℕ) (first : A) (m : ℕ) → m ≤ length t → item i ≡ Ok (first, m)
    → Gathered (λ a. is_in (s ∷ []) a.symbol) (behind_read s t item) t (separated_read s t item i) (first ∷ []) m
separated_begins s t item i first m h e = first_gathered (λ a. is_in (s ∷ []) a.symbol) (behind_read s t item) t (item i) first m h e

pub some_begins : {A : Type 0} (firsts : List ℕ) (t : Text) (item : ℕ → Read A) (i : ℕ) (first : A) (m : ℕ) → m ≤ length t → item i ≡ Ok (first, m)
    → Gathered (λ a. is_in firsts a.symbol) item t (some_read firsts t item i) (first ∷ []) m
some_begins firsts t item i first m h e = first_gathered (λ a. is_in firsts a.symbol) item t (item i) first m h e

pub list_begins : {A : Type 0} (firsts : List ℕ) (t : Text) (item : ℕ → Read A) (i : ℕ) → i ≤ length t
    → Gathered (λ a. is_in firsts a.symbol) item t (list_read firsts t item i) [] i
list_begins {A = A} firsts t item i h = record {
  fuel = suc (length t);
  enough = omega arith;
  within = h;
  is = front_is (many_read (λ a. is_in firsts a.symbol) item t (suc (length t)) i);
} where
  front_is : (r : Read (List A)) → r ≡ turned (λ l. [] ++ l) r
  front_is (Ok x) = refl
  front_is (Err f) = refl

-- a first item that was read before, and a loop for the others
pub rest_begins : {A : Type 0} (firsts : List ℕ) (t : Text) (item : ℕ → Read A) (first : A) (i : ℕ) → i ≤ length t
    → Gathered (λ a. is_in firsts a.symbol) item t (turned (λ l. first ∷ l) (list_read firsts t item i)) (first ∷ []) i
rest_begins {A = A} firsts t item first i h = record {
  fuel = suc (length t);
  enough = omega arith;
  within = h;
  is = front_is (many_read (λ a. is_in firsts a.symbol) item t (suc (length t)) i);
} where
  front_is : (r : Read (List A)) → turned (λ l. first ∷ l) r ≡ turned (λ l. (first ∷ []) ++ l) r
  front_is (Ok x) = refl
  front_is (Err f) = refl

pub first_and_others : {A : Type 0} (s : ℕ) (t : Text) (item : ℕ → Read A) (i : ℕ) (first : A) (m : ℕ) → item i ≡ Ok (first, m)
    → separated_read s t item i ≡ turned (λ l. first ∷ l) (list_read (s ∷ []) t (behind_read s t item) m)
first_and_others {A = A} s t item i first m e =
    ap (λ (r : Read A). turned (λ p. p.0 ∷ p.1) (and_then r (λ a m. list_read (s ∷ []) t (behind_read s t item) m))) e ∙ joined (list_read (s ∷ []) t (behind_read s t item) m) where
      joined : (r : Read (List A)) → turned (λ p. p.0 ∷ p.1) (join first r) ≡ turned (λ l. first ∷ l) r
      joined (Ok x) = refl
      joined (Err f) = refl
