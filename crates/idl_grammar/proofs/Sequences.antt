-- Exact readings put together: sequences, alternatives, lists and brackets, told by lists of first symbols.
use Rattle.std.proofs.Common.{◌≡◌, ℕ, suc, ◌<◌, ◌≤◌, Bool, true, false, ◌||◌, not, cond, List, [], ◌∷◌, length, refl, sym, ap, subst, arith, ◌∙◌, leb, eq-eqb, Ok, Err, ◌⊎◌, inl, inr, Some, None}
use Rattle.std.specs.List.{list_all}
use Rattle.std.proofs.lemmas.Bool.{leb-false, eqb-true, and_parts as both, not-true as not_true}
use Rattle.std.proofs.lemmas.Bool.Decides.{eqb_tells}
use Rattle.nd_lemmas.proofs.Booleans.{clash}
use Rattle.idl_grammar.specs.Text.{Lexeme, Text, lexeme_at, symbol_at, is, is_in, Depth, Lifted, Rel, many, token, optional, unless, ◌⊗◌, ◌⊳◌, ◌⊲◌, ◌∣◌, located, some_of, separated, many_brackets}
use Rattle.idl_grammar.specs.Text.{bracketed, made}
use Rattle.idl_grammar.specs.ReadPhrases.{Read, join, and_then, turned, mark_read, to_unit, skip, ended, end_with, located_read, choice_read, option_read, list_read, some_read, behind_read}
use Rattle.idl_grammar.specs.ReadPhrases.{separated_read, open_read, bracketed_read}
use Rattle.idl_grammar.proofs.Exact.{Stops, Found, Exact, HasPhrase, Meets, pair_exact, Part, turned_exact}
use Rattle.idl_grammar.proofs.Parts.{ruled_exact, ruled_has, optional_exact, many_exact, many_has, mark_exact, mark_has, marked, of_symbol, pair_has, turned_has, moves_of}

-- ## lists of symbols

abbrev pub disjoint : List ℕ → List ℕ → Bool
disjoint xs ys = list_all (λ s. not (is_in ys s)) xs

abbrev pub subset : List ℕ → List ℕ → Bool
subset xs ys = list_all (λ s. is_in ys s) xs

passes : (p : ℕ → Bool) (xs : List ℕ) (s : ℕ) → list_all p xs ≡ true → is_in xs s ≡ true → p s ≡ true
passes p [] s all one = clash false one refl
passes p (d ∷ ds) s all one = elim (eqb_tells s d) as (λ _. p s ≡ true) [
  | inl e ↦ ap p e.1 ∙ (both (p d) (list_all p ds) all).0
  | inr n ↦ passes p ds s (both (p d) (list_all p ds) all).1 (sym (ap (λ (b : Bool). b || is_in ds s) n.0) ∙ one)
]

pub apart : (xs ys : List ℕ) (s : ℕ) → disjoint xs ys ≡ true → is_in xs s ≡ true → is_in ys s ≡ false
apart xs ys s d h = not_true (is_in ys s) (passes (λ d. not (is_in ys d)) xs s d h)

pub smaller : (xs ys : List ℕ) (s : ℕ) → subset xs ys ≡ true → is_in ys s ≡ false → is_in xs s ≡ false
smaller xs ys s sub h = by_case (is_in xs s) refl where
  by_case : (b : Bool) → is_in xs s ≡ b → is_in xs s ≡ false
  by_case false e = e
  by_case true e = clash (is_in ys s) (passes (λ d. is_in ys d) xs s sub e) h

-- the next symbol is none of these
abbrev pub stops : List ℕ → Stops
stops symbols x j = is_in symbols (symbol_at x j) ≡ false

-- every phrase begins with one of these
abbrev pub Begins : {A : Type 0} → Rel A → List ℕ → Type 0
Begins P firsts = (lifted : Lifted) (x : Text) (i j : ℕ) (a : _) → P a lifted x i j → is_in firsts (symbol_at x i) ≡ true

-- every phrase is empty or begins with one of these
abbrev pub BeginsOr : {A : Type 0} → Rel A → List ℕ → Type 0
BeginsOr P firsts = (lifted : Lifted) (x : Text) (i j : ℕ) (a : _) → P a lifted x i j → (is_in firsts (symbol_at x i) ≡ true) ⊎ (j ≡ i)

pub meets_first : {B : Type 0} (Q : Rel B) (firsts ends : List ℕ) (Stop : Stops) → Begins Q firsts → disjoint firsts ends ≡ true → Meets B (stops ends) Q Stop
meets_first Q firsts ends Stop begins d lifted x m j b ph stop = apart firsts ends (symbol_at x m) d (begins lifted x m j b ph)

pub meets_or : {B : Type 0} (Q : Rel B) (firsts ends all : List ℕ) → BeginsOr Q firsts → disjoint firsts ends ≡ true → subset ends all ≡ true → Meets B (stops ends) Q (stops all)
meets_or Q firsts ends all begins d s lifted x m j b ph stop = elim (begins lifted x m j b ph) as (λ _. is_in ends (symbol_at x m) ≡ false) [
  | inl first ↦ apart firsts ends (symbol_at x m) d first
  | inr empty ↦ smaller ends all (symbol_at x m) s (subst (λ (k : ℕ). is_in all (symbol_at x k) ≡ false) empty stop)
]

pub fewer_stops : {A : Type 0} (P : Rel A) (ends all : List ℕ) (t : Text) (i : ℕ) → subset ends all ≡ true → (r : Read A) → Exact P (stops ends) t i r → Exact P (stops all) t i r
fewer_stops P ends all t i s (Ok x) f = record {
  after = f.after;
  within = f.within;
  phrase = f.phrase;
  only = λ lifted x agrees b j ph stop. f.only lifted x agrees b j ph (smaller ends all (symbol_at x j) s stop);
}
fewer_stops P ends all t i s (Err e) f = record {
  after = f.after;
  within = f.within;
  viable = f.viable;
  never = λ lifted r x agrees b j ph stop. f.never lifted r x agrees b j ph (smaller ends all (symbol_at x j) s stop);
}

-- ## marks before and after

skip_is : {A : Type 0} (r : Read (Unit {0})) (g : ℕ → Read A) → turned (λ (p : Unit {0} × A). p.1) (and_then r (λ u m. g m)) ≡ skip r g
skip_is (Err f) g = refl
skip_is {A = A} (Ok x) g = by_case (g x.1) where
  by_case : (s : Read A) → turned (λ (p : Unit {0} × A). p.1) (join x.0 s) ≡ s
  by_case (Err f) = refl
  by_case (Ok y) = refl

pub skip_exact : {A : Type 0} (s : ℕ) (P : Rel A) (Stop : Stops) (t : Text) (i : ℕ) → is 0 s ≡ false → i ≤ length t → HasPhrase P
    → (g : ℕ → Read A) → ((m : ℕ) → i < m → m ≤ length t → Exact P Stop t m (g m)) → Exact (s ⊳ P) Stop t i (skip (mark_read s t i) g)
skip_exact {A = A} s P Stop t i real in_text has g exact =
    subst (λ (r : Read A). Exact (s ⊳ P) Stop t i r) (skip_is (mark_read s t i) g)
    (turned_exact (marked s ⊗ P) (s ⊳ P) (λ (p : Unit {0} × A). p.1) (λ lifted x i j a ph. ph) Stop t i
    (λ lifted x e c j ph stop. record { part = (tt, c); is = refl; phrase = ph }) (and_then (mark_read s t i) (λ u m. g m))
    (pair_exact (marked s) P (stops []) Stop (λ lifted x m j b ph stop. refl) has t i (mark_read s t i) (λ u m. g m) (mark_exact s real (stops []) t i in_text)
    (λ u m found. exact m (omega (arith, (found.phrase (λ _ _. false) t (λ p lt. refl)).1)) found.within)))

pub skip_has : {A : Type 0} (s : ℕ) (P : Rel A) → is 0 s ≡ false → HasPhrase P → HasPhrase (s ⊳ P)
skip_has {A = A} s P real has = turned_has (marked s ⊗ P) (s ⊳ P) (λ (p : Unit {0} × A). p.1) (λ lifted x i j a ph. ph) (pair_has (marked s) P (mark_has s real) has)

pub skip_begins : {A : Type 0} (s : ℕ) (P : Rel A) → Begins (s ⊳ P) (s ∷ [])
skip_begins s P lifted x i j a ph = ap (λ (b : Bool). b || false) (eq-eqb (symbol_at x i) s ph.1.0)

end_is : {A : Type 0} (r : Read A) (g : ℕ → Read (Unit {0})) → turned (λ (p : A × Unit {0}). p.0) (and_then r (λ a m. g m)) ≡ end_with r g
end_is (Err f) g = refl
end_is {A = A} (Ok x) g = by_case (g x.1) where
  by_case : (s : Read (Unit {0})) → turned (λ (p : A × Unit {0}). p.0) (join x.0 s) ≡ ended x.0 s
  by_case (Err f) = refl
  by_case (Ok y) = refl

pub end_meets_exact : {A : Type 0} (P : Rel A) (s : ℕ) (StopP Stop : Stops) (t : Text) (i : ℕ) → is 0 s ≡ false → Meets (Unit {0}) StopP (marked s) Stop
    → (r : Read A) → Exact P StopP t i r → Exact (P ⊲ s) Stop t i (end_with r (λ m. mark_read s t m))
end_meets_exact {A = A} P s StopP Stop t i real meets r exact =
    subst (λ (v : Read A). Exact (P ⊲ s) Stop t i v) (end_is r (λ m. mark_read s t m))
    (turned_exact (P ⊗ marked s) (P ⊲ s) (λ (p : A × Unit {0}). p.0) (λ lifted x i j a ph. ph) Stop t i
    (λ lifted x e c j ph stop. record { part = (c, tt); is = refl; phrase = ph }) (and_then r (λ a m. mark_read s t m))
    (pair_exact P (marked s) StopP Stop meets (mark_has s real) t i r (λ a m. mark_read s t m) exact
    (λ a m found. mark_exact s real Stop t m found.within)))

pub ends_at : (s : ℕ) (ends : List ℕ) (Stop : Stops) → is_in ends s ≡ false → Meets (Unit {0}) (stops ends) (marked s) Stop
ends_at s ends Stop not_in lifted x m j b ph stop = ap (λ (c : ℕ). is_in ends c) ph.0 ∙ not_in

pub end_exact : {A : Type 0} (P : Rel A) (s : ℕ) (ends : List ℕ) (Stop : Stops) (t : Text) (i : ℕ) → is 0 s ≡ false → is_in ends s ≡ false
    → (r : Read A) → Exact P (stops ends) t i r → Exact (P ⊲ s) Stop t i (end_with r (λ m. mark_read s t m))
end_exact P s ends Stop t i real not_in r exact = end_meets_exact P s (stops ends) Stop t i real (ends_at s ends Stop not_in) r exact

pub end_has : {A : Type 0} (P : Rel A) (s : ℕ) → is 0 s ≡ false → HasPhrase P → HasPhrase (P ⊲ s)
end_has {A = A} P s real has = turned_has (P ⊗ marked s) (P ⊲ s) (λ (p : A × Unit {0}). p.0) (λ lifted x i j a ph. ph) (pair_has P (marked s) has (mark_has s real))

pub end_begins : {A : Type 0} (P : Rel A) (s : ℕ) (firsts : List ℕ) → Begins P firsts → Begins (P ⊲ s) firsts
end_begins P s firsts begins lifted x i j a ph = begins lifted x i ph.0 a ph.1

pub pair_begins : {A B : Type 0} (P : Rel A) (Q : Rel B) (firsts : List ℕ) → Begins P firsts → Begins (P ⊗ Q) firsts
pair_begins P Q firsts begins lifted x i j a ph = begins lifted x i ph.0 a.0 ph.1

-- ## where a phrase begins

moved : {A : Type 0} (P : Rel A) (firsts : List ℕ) (Stop : Stops) → Begins P firsts → is_in firsts 0 ≡ false → (t : Text) (i : ℕ) (a : A) (m : ℕ) → Found P Stop t i a m → i < m
moved P firsts Stop begins real t i a m found = moves_of P (λ l. is_in firsts l.symbol) Stop real begins t i a m found

pair_equal : {B : Type 0} {p q : ℕ} {b c : B} → p ≡ q → b ≡ c → ◌≡◌ {A = ℕ × B} (p, b) (q, c)
pair_equal p q = cc

pub located_exact : {A : Type 0} (P : Rel A) (firsts : List ℕ) (Stop : Stops) (t : Text) (i : ℕ) → Begins P firsts → is_in firsts 0 ≡ false
    → (r : Read A) → Exact P Stop t i r → Exact (located P) Stop t i (located_read t i r)
located_exact P firsts Stop t i begins real (Err f) x = record {
  after = x.after;
  within = x.within;
  never = λ lifted r u agrees c j ph stop. x.never lifted r u agrees c.1 j ph.1 stop;
  viable = λ lifted is lifts z.
      let b = x.viable lifted is lifts z in
      record { text = b.text; agrees = b.agrees; value = ((lexeme_at b.text i).at, b.value); end = b.end; phrase = (refl, b.phrase); late = b.late; rest = b.rest };
}
located_exact P firsts Stop t i begins real (Ok a) x = record {
  after = x.after;
  within = x.within;
  phrase = λ lifted u agrees. (sym (ap (λ (l : Lexeme). l.at) (agrees i (moved P firsts Stop begins real t i a.0 a.1 x))), x.phrase lifted u agrees);
  only = λ lifted u agrees c j ph stop.
      let e = x.only lifted u agrees c.1 j ph.1 stop in
      (pair_equal (ph.0 ∙ ap (λ (l : Lexeme). l.at) (agrees i (omega (arith, x.after)))) e.0, e.1);
}

pub located_has : {A : Type 0} (P : Rel A) → HasPhrase P → HasPhrase (located P)
located_has P has z =
    let s = has z in
    record {
      start = s.start;
      grows = λ x j lifted is rest.
          let g = s.grows x j lifted is rest in
          record { value = ((lexeme_at x j).at, g.value); end = g.end; phrase = (refl, g.phrase); late = g.late; rest = g.rest };
    }

pub located_begins : {A : Type 0} (P : Rel A) (firsts : List ℕ) → Begins P firsts → Begins (located P) firsts
located_begins P firsts begins lifted x i j a ph = begins lifted x i j a.1 ph.1

-- ## one or the other

module _ {A B : Type 0} (P : Rel A) (Q : Rel B) (firsts others : List ℕ) (begins : Begins P firsts) (else_begins : Begins Q others) (apart_is : disjoint others firsts ≡ true) (Stop : Stops)
    (t : Text) (i : ℕ) where
  first_back : is_in firsts (symbol_at t i) ≡ true → (lifted : Lifted) (x : Text) → lexeme_at x i ≡ lexeme_at t i → (c : A ⊎ B) (j : ℕ) → (P ∣ Q) c lifted x i j → Stop x j
      → Part P (P ∣ Q) inl lifted x i j c
  first_back h lifted x e (inl a) j ph stop = record { part = a; is = refl; phrase = ph }
  first_back h lifted x e (inr b) j ph stop =
      clash (is_in firsts (symbol_at x i)) (ap (λ (l : Lexeme). is_in firsts l.symbol) e ∙ h) (apart others firsts (symbol_at x i) apart_is (else_begins lifted x i j b ph))

  second_back : is_in firsts (symbol_at t i) ≡ false → (lifted : Lifted) (x : Text) → lexeme_at x i ≡ lexeme_at t i → (c : A ⊎ B) (j : ℕ) → (P ∣ Q) c lifted x i j → Stop x j
      → Part Q (P ∣ Q) inr lifted x i j c
  second_back h lifted x e (inl a) j ph stop = clash (is_in firsts (symbol_at x i)) (begins lifted x i j a ph) (ap (λ (l : Lexeme). is_in firsts l.symbol) e ∙ h)
  second_back h lifted x e (inr b) j ph stop = record { part = b; is = refl; phrase = ph }

  choice_case : (r : Read A) (s : Read B) → (is_in firsts (symbol_at t i) ≡ true → Exact P Stop t i r) → Exact Q Stop t i s → (b : Bool) → is_in firsts (symbol_at t i) ≡ b
      → Exact (P ∣ Q) Stop t i (cond b (turned inl r) (turned inr s))
  choice_case r s x y true h = turned_exact P (P ∣ Q) inl (λ lifted x i j a ph. ph) Stop t i (first_back h) r (x h)
  choice_case r s x y false h = turned_exact Q (P ∣ Q) inr (λ lifted x i j a ph. ph) Stop t i (second_back h) s y

  pub choice_exact : (r : Read A) (s : Read B) → (is_in firsts (symbol_at t i) ≡ true → Exact P Stop t i r) → Exact Q Stop t i s → Exact (P ∣ Q) Stop t i (choice_read firsts t i r s)
  choice_exact r s x y = choice_case r s x y (is_in firsts (symbol_at t i)) refl

pub in_more : (xs ys : List ℕ) (s : ℕ) → subset xs ys ≡ true → is_in xs s ≡ true → is_in ys s ≡ true
in_more xs ys s sub h = passes (λ d. is_in ys d) xs s sub h

pub choice_begins : {A B : Type 0} (P : Rel A) (Q : Rel B) (firsts others all : List ℕ) → Begins P firsts → Begins Q others → subset firsts all ≡ true → subset others all ≡ true → Begins (P ∣ Q) all
choice_begins P Q firsts others all p q s r lifted x i j (inl a) ph = in_more firsts all (symbol_at x i) s (p lifted x i j a ph)
choice_begins P Q firsts others all p q s r lifted x i j (inr b) ph = in_more others all (symbol_at x i) r (q lifted x i j b ph)

pub choice_has : {A B : Type 0} (P : Rel A) (Q : Rel B) → HasPhrase P → HasPhrase (P ∣ Q)
choice_has P Q p = turned_has P (P ∣ Q) inl (λ lifted x i j a ph. ph) p

-- ## options and lists

pub option_exact : {A : Type 0} (P : Rel A) (firsts ends all : List ℕ) (t : Text) (i : ℕ) → Begins P firsts → subset firsts all ≡ true → subset ends all ≡ true → i ≤ length t
    → (item : ℕ → Read A) → Exact P (stops ends) t i (item i) → Exact (optional P) (stops all) t i (option_read firsts t item i)
option_exact P firsts ends all t i begins sub more in_text item exact =
    optional_exact P (λ l. is_in firsts l.symbol) (stops all) begins (λ x j stop. smaller firsts all (symbol_at x j) sub stop) t i in_text item
    (fewer_stops P ends all t i more (item i) exact)

pub option_begins : {A : Type 0} (P : Rel A) (firsts : List ℕ) → Begins P firsts → BeginsOr (optional P) firsts
option_begins P firsts begins lifted x i j None ph = inr ph
option_begins P firsts begins lifted x i j (Some a) ph = inl (begins lifted x i j a ph)

pub list_begins : {A : Type 0} (P : Rel A) (firsts : List ℕ) → Begins P firsts → BeginsOr (many P) firsts
list_begins P firsts begins lifted x i j [] ph = inr ph
list_begins P firsts begins lifted x i j (a ∷ others) ph = inl (begins lifted x i ph.0 a ph.1)

module _ {A : Type 0} (P : Rel A) (firsts ends all : List ℕ) (begins : Begins P firsts) (real : is_in firsts 0 ≡ false)
    (go : subset firsts all ≡ true) (sub : subset ends all ≡ true) (d : disjoint firsts ends ≡ true) (t : Text) (base : ℕ)
    (item : ℕ → Read A) (exact : (i : ℕ) → base ≤ i → i ≤ length t → Exact P (stops ends) t i (item i)) where
  pub list_exact : (i : ℕ) → base ≤ i → i ≤ length t → Exact (many P) (stops all) t i (list_read firsts t item i)
  list_exact i based in_text =
      many_exact P (λ l. is_in firsts l.symbol) (stops ends) (stops all) begins (λ x j stop. smaller firsts all (symbol_at x j) go stop)
      (λ x j stop. smaller ends all (symbol_at x j) sub stop) (λ x j h. apart firsts ends (symbol_at x j) d h)
      t base item (moved P firsts (stops ends) begins real t) exact (suc (length t)) i based in_text (omega arith)

  pub some_exact : (i : ℕ) → base ≤ i → i ≤ length t → Exact (some_of P) (stops all) t i (some_read firsts t item i)
  some_exact i based in_text =
      turned_exact (P ⊗ many P) (some_of P) (λ p. p.0 ∷ p.1) (λ lifted x i j a ph. ph) (stops all) t i back _
      (pair_exact P (many P) (stops ends) (stops all) (meets_or (many P) firsts ends all (list_begins P firsts begins) d sub) (many_has P) t i (item i) _ (exact i based in_text)
      (λ a m found. list_exact m (omega (arith, found.after)) found.within)) where
        back : (lifted : Lifted) (x : Text) → lexeme_at x i ≡ lexeme_at t i → (c : List A) (j : ℕ) → some_of P c lifted x i j → stops all x j
            → Part (P ⊗ many P) (some_of P) (λ p. p.0 ∷ p.1) lifted x i j c
        back lifted x e [] j ph stop = absurd ph
        back lifted x e (a ∷ others) j ph stop = record { part = (a, others); is = refl; phrase = ph }

pub some_has : {A : Type 0} (P : Rel A) → HasPhrase P → HasPhrase (some_of P)
some_has P has = turned_has (P ⊗ many P) (some_of P) (λ p. p.0 ∷ p.1) (λ lifted x i j a ph. ph) (pair_has P (many P) has (many_has P))

pub some_begins : {A : Type 0} (P : Rel A) (firsts : List ℕ) → Begins P firsts → Begins (some_of P) firsts
some_begins P firsts begins lifted x i j [] ph = absurd ph
some_begins P firsts begins lifted x i j (a ∷ others) ph = begins lifted x i ph.0 a ph.1

module _ {A : Type 0} (s : ℕ) (P : Rel A) (ends all : List ℕ) (has : HasPhrase P) (real : is 0 s ≡ false)
    (go : subset (s ∷ []) all ≡ true) (sub : subset ends all ≡ true) (d : disjoint (s ∷ []) ends ≡ true) (t : Text) (base : ℕ)
    (item : ℕ → Read A) (exact : (i : ℕ) → base ≤ i → i ≤ length t → Exact P (stops ends) t i (item i)) where
  not_end : is_in (s ∷ []) 0 ≡ false
  not_end = ap (λ (b : Bool). b || false) real

  behind_exact : (i : ℕ) → base ≤ i → i ≤ length t → Exact (s ⊳ P) (stops ends) t i (behind_read s t item i)
  behind_exact i based in_text = skip_exact s P (stops ends) t i real in_text has item (λ m after h. exact m (omega arith) h)

  pub separated_exact : (i : ℕ) → base ≤ i → i ≤ length t → Exact (separated s P) (stops all) t i (separated_read s t item i)
  separated_exact i based in_text =
      turned_exact (P ⊗ many (s ⊳ P)) (separated s P) (λ p. p.0 ∷ p.1) (λ lifted x i j a ph. ph) (stops all) t i back _
      (pair_exact P (many (s ⊳ P)) (stops ends) (stops all) (meets_or (many (s ⊳ P)) (s ∷ []) ends all (list_begins (s ⊳ P) (s ∷ []) (skip_begins s P)) d sub) (many_has (s ⊳ P)) t i (item i) _
      (exact i based in_text)
      (λ a m found. list_exact (s ⊳ P) (s ∷ []) ends all (skip_begins s P) not_end go sub d t base (behind_read s t item) behind_exact m (omega (arith, found.after)) found.within)) where
        back : (lifted : Lifted) (x : Text) → lexeme_at x i ≡ lexeme_at t i → (c : List A) (j : ℕ) → separated s P c lifted x i j → stops all x j
            → Part (P ⊗ many (s ⊳ P)) (separated s P) (λ p. p.0 ∷ p.1) lifted x i j c
        back lifted x e [] j ph stop = absurd ph
        back lifted x e (a ∷ others) j ph stop = record { part = (a, others); is = refl; phrase = ph }

pub separated_has : {A : Type 0} (s : ℕ) (P : Rel A) → HasPhrase P → HasPhrase (separated s P)
separated_has s P has = turned_has (P ⊗ many (s ⊳ P)) (separated s P) (λ p. p.0 ∷ p.1) (λ lifted x i j a ph. ph) (pair_has P (many (s ⊳ P)) has (many_has (s ⊳ P)))

pub separated_begins : {A : Type 0} (s : ℕ) (P : Rel A) (firsts : List ℕ) → Begins P firsts → Begins (separated s P) firsts
separated_begins s P firsts begins lifted x i j [] ph = absurd ph
separated_begins s P firsts begins lifted x i j (a ∷ others) ph = begins lifted x i ph.0 a ph.1

-- ## brackets

abbrev opening : ℕ → ℕ → Rel (Unit {0})
opening depth s u = unless Depth (many_brackets depth) (token (λ a. is a.symbol s) to_unit u)

opening_exact : (depth s : ℕ) → is 0 s ≡ false → (Stop : Stops) (t : Text) (i : ℕ) → i ≤ length t → Exact (opening depth s) Stop t i (open_read depth s t i)
opening_exact depth s real Stop t i in_text =
    ruled_exact Depth (many_brackets depth) (λ t x i agrees. refl) (λ a. is a.symbol s) to_unit (of_symbol s) (eq-eqb s s refl) real (λ lifted x j is e. inl (is j (omega arith))) Stop t i in_text

opening_has : (depth s : ℕ) → is 0 s ≡ false → HasPhrase (opening depth s)
opening_has depth s real =
    ruled_has Depth (many_brackets depth) (λ t x i agrees. refl) (λ a. is a.symbol s) to_unit (of_symbol s) (eq-eqb s s refl) real (λ lifted x j is e. inl (is j (omega arith)))

module _ {A : Type 0} (depth o c : ℕ) (P : Rel A) (real : is 0 o ≡ false) (close_real : is 0 c ≡ false) where
  abbrev bracket_parts : Rel (Unit {0} × A)
  bracket_parts = opening depth o ⊗ (P ⊲ c)

  bracket_forth : (lifted : Lifted) (x : Text) (i j : ℕ) (p : Unit {0} × A) → bracket_parts p lifted x i j → bracketed depth o c P p.1 lifted x i j
  bracket_forth lifted x i j p ph = (ph.0, (ph.1.0, (eqb-true (symbol_at x i) o ph.1.1.0, ph.1.1.2)), ph.2)

  bracket_back : (lifted : Lifted) (x : Text) (i j : ℕ) (a : A) → bracketed depth o c P a lifted x i j → bracket_parts (tt, a) lifted x i j
  bracket_back lifted x i j a ph = (ph.0, (ph.1.0, (eq-eqb (symbol_at x i) o ph.1.1.0, refl, ph.1.1.1)), ph.2)

  pub bracketed_has : HasPhrase P → HasPhrase (bracketed depth o c P)
  bracketed_has has =
      turned_has bracket_parts (bracketed depth o c P) (λ (p : Unit {0} × A). p.1) bracket_forth (pair_has (opening depth o) (P ⊲ c) (opening_has depth o real) (end_has P c close_real has))

  pub bracketed_begins : Begins (bracketed depth o c P) (o ∷ [])
  bracketed_begins lifted x i j a ph = ap (λ (b : Bool). b || false) (eq-eqb (symbol_at x i) o ph.1.1.0)

  pub bracketed_exact : (StopP Stop : Stops) (t : Text) (i : ℕ) → i ≤ length t → Meets (Unit {0}) StopP (marked c) Stop → HasPhrase P → (item : ℕ → Read A)
      → (depth < 64 → (m : ℕ) → i < m → m ≤ length t → Exact P StopP t m (item m)) → Exact (bracketed depth o c P) Stop t i (bracketed_read depth o c t item i)
  bracketed_exact StopP Stop t i in_text meets has item exact =
      subst (λ (r : Read A). Exact (bracketed depth o c P) Stop t i r) (skip_is (open_read depth o t i) (λ m. end_with (item m) (λ n. mark_read c t n)))
      (turned_exact bracket_parts (bracketed depth o c P) (λ (p : Unit {0} × A). p.1) bracket_forth Stop t i
      (λ lifted x e a j ph stop. record { part = (tt, a); is = refl; phrase = bracket_back lifted x i j a ph }) _
      (pair_exact (opening depth o) (P ⊲ c) (stops []) Stop (λ lifted x m j b ph stop. refl) (end_has P c close_real has) t i (open_read depth o t i) (λ u m. end_with (item m) (λ n. mark_read c t n))
      (opening_exact depth o real (stops []) t i in_text)
      (λ u m found.
      let on_t = found.phrase (λ _ _. false) t (λ p lt. refl) in
      let not_full : leb 64 depth ≡ false = elim on_t.0 [ inl free ↦ absurd (let e : false ≡ true = free in cc) | inr below ↦ below ] in
      let room : depth < 64 = leb-false 64 depth not_full in
      end_meets_exact P c StopP Stop t m close_real meets (item m) (exact room m (omega (arith, on_t.1.2)) found.within))))

-- ## what is made of a phrase

pub made_exact : {A C : Type 0} (make : A → C) (P : Rel A) (Stop : Stops) (t : Text) (i : ℕ) (r : Read A) → Exact P Stop t i r → Exact (made make P) Stop t i (turned make r)
made_exact make P Stop t i r x =
    turned_exact P (made make P) make (λ lifted x i j a ph. (a, refl, ph)) Stop t i (λ lifted x e c j ph stop. record { part = ph.0; is = ph.1; phrase = ph.2 }) r x

pub made_has : {A C : Type 0} (make : A → C) (P : Rel A) → HasPhrase P → HasPhrase (made make P)
made_has make P = turned_has P (made make P) make (λ lifted x i j a ph. (a, refl, ph))

pub made_begins : {A C : Type 0} (make : A → C) (P : Rel A) (firsts : List ℕ) → Begins P firsts → Begins (made make P) firsts
made_begins make P firsts begins lifted x i j c ph = begins lifted x i j ph.0 ph.2

-- what may be empty, and what then begins
pub or_pair_begins : {A B : Type 0} (P : Rel A) (Q : Rel B) (firsts others all : List ℕ) → BeginsOr P firsts → Begins Q others → subset firsts all ≡ true → subset others all ≡ true
    → Begins (P ⊗ Q) all
or_pair_begins P Q firsts others all p q s r lifted x i j c ph = elim (p lifted x i ph.0 c.0 ph.1) as (λ _. is_in all (symbol_at x i) ≡ true) [
  | inl first ↦ in_more firsts all (symbol_at x i) s first
  | inr empty ↦ in_more others all (symbol_at x i) r (subst (λ (k : ℕ). is_in others (symbol_at x k) ≡ true) empty (q lifted x ph.0 j c.1 ph.2))
]
