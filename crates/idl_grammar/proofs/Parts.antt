-- Exact readings of one token, of an option and of a list.
use Rattle.std.proofs.Common.{◌≡◌, ℕ, zero, suc, ◌+◌, ◌-◌, ◌<◌, ◌≤◌, Bool, true, false, List, [], ◌∷◌, ◌++◌, length, take, drop, refl, sym, ap, subst, arith, Ok, Err, ◌⊎◌, inl, inr, ◌∙◌, cond, Option}
use Rattle.std.proofs.Common.{Some, None, length-take, add-zero, length-append, length-drop, eq-eqb}
use Rattle.std.proofs.lemmas.Bool.{eqb-true}
use Rattle.std.proofs.Math.Decide.{dec_lt}
use Rattle.std.proofs.Math.ListN.{get_or-append}
use Rattle.std.proofs.lemmas.List.{drop_at, get_or_past, get_or-drop, get_or-take, drop-drop}
use Rattle.nd_lemmas.proofs.Booleans.{clash}
use Rattle.idl_grammar.specs.Text.{Rel, Lexeme, Text, the_end, lexeme_at, symbol_at, Lifted, mark, many, token, optional, unless, is, Rule}
use Rattle.idl_grammar.specs.ReadPhrases.{Syntax, Passes, Read, and_then, turned, token_read, ruled_read, mark_read, optional_read, many_read, to_unit}
use Rattle.idl_grammar.proofs.Exact.{Agrees, IsDeepFrom, Stops, Found, Rest, Failed, Exact, HasPhrase, pair, Meets, pair_exact, Part, turned_exact, deep_later}

-- ## texts

-- the first tokens of a text, and others after them
abbrev pub cut : Text → ℕ → Text → Text
cut t k z = take k t ++ z

cut_length : (t : Text) (k : ℕ) → k ≤ length t → length (take k t) ≡ k
cut_length t k h = simp length-take (omega arith)

cut_agrees : (t : Text) (k : ℕ) (z : Text) → k ≤ length t → Agrees t (cut t k z) k
cut_agrees t k z h i lt =
    let e : length (take k t) ≡ k = cut_length t k h in
    let in_range : i < length (take k t) = omega arith in
    get_or-append (take k t) z the_end i in_range ∙ get_or-take k t i the_end lt

cut_drop : (t : Text) (k : ℕ) (z : Text) → k ≤ length t → drop k (cut t k z) ≡ z
cut_drop t k z h = drop_at (take k t) z k (cut_length t k h)

cut_rest : (t : Text) (k : ℕ) (z : Text) → k ≤ length t → Rest (cut t k z) k z
cut_rest t k z h = (simp length-append (let e : length (take k t) ≡ k = cut_length t k h in omega arith), cut_drop t k z h)

-- what is at a place whose rest is known
pub at_rest : (x : Text) (j : ℕ) (a : Lexeme) (z : Text) → Rest x j (a ∷ z) → lexeme_at x j ≡ a
at_rest x j a z h = sym (rw add-zero at (get_or-drop j x 0 the_end)) ∙ ap (λ (l : Text). lexeme_at l 0) h.1

pub rest_more : (x : Text) (j : ℕ) (a : Lexeme) (z : Text) → Rest x j (a ∷ z) → Rest x (j + 1) z
rest_more x j a z h =
    let e : length x - j ≡ suc (length z) = sym (length-drop j x) ∙ ap length h.1 in
    (omega arith, sym (drop-drop 1 j x) ∙ ap (λ (l : Text). drop 1 l) h.1)

cut_at : (t : Text) (k : ℕ) (a : Lexeme) (z : Text) → k ≤ length t → lexeme_at (cut t k (a ∷ z)) k ≡ a
cut_at t k a z h = at_rest (cut t k (a ∷ z)) k a z (cut_rest t k (a ∷ z) h)

cut_more : (t : Text) (k : ℕ) (a : Lexeme) (z : Text) → k ≤ length t → Rest (cut t k (a ∷ z)) (k + 1) z
cut_more t k a z h = rest_more (cut t k (a ∷ z)) k a z (cut_rest t k (a ∷ z) h)

-- ## none of the alternatives

pub none_exact : {A : Type 0} (P : Rel A) (Stop : Stops) (t : Text) (i : ℕ) → i ≤ length t → HasPhrase P
    → ((lifted : Lifted) (x : Text) → lexeme_at x i ≡ lexeme_at t i → (b : A) (j : ℕ) → P b lifted x i j → Stop x j → ⊥)
    → Failed P Stop t i (Syntax i)
none_exact P Stop t i in_text has nothing_is = record {
  after = omega arith;
  within = in_text;
  never = λ lifted r x agrees b j ph stop. nothing_is lifted x (agrees i (omega arith)) b j ph stop;
  viable = λ lifted is lifts z.
      let s = has z in
      let x = cut t i s.start in
      let g = s.grows x i lifted is (cut_rest t i s.start in_text) in
      record { text = x; agrees = cut_agrees t i s.start in_text; value = g.value; end = g.end; phrase = g.phrase; late = g.late; rest = g.rest };
}

-- ## one token

module _ {A : Type 0} (good : Lexeme → Bool) (see : Lexeme → A) (some : Lexeme) (is_good : good some ≡ true) (not_end : good the_end ≡ false) where
  pub token_has : HasPhrase (token good see)
  token_has z = record {
    start = some ∷ z;
    grows = λ x j lifted is rest.
        let e = at_rest x j some z rest in
        record {
          value = see some;
          end = j + 1;
          phrase = (ap good e ∙ is_good, ap see (sym e), refl);
          late = omega arith;
          rest = rest_more x j some z rest;
        };
  }

  module _ (Stop : Stops) (t : Text) (i : ℕ) (in_text : i ≤ length t) where
    token_good : good (lexeme_at t i) ≡ true → Found (token good see) Stop t i (see (lexeme_at t i)) (i + 1)
    token_good h = record {
      after = omega arith;
      within = elim (dec_lt i (length t)) as (λ _. i + 1 ≤ length t) [
        | yes lt ↦ omega arith
        | no ge ↦ clash (good (lexeme_at t i)) h (ap good (get_or_past t i the_end (let past : length t ≤ i = omega arith in past)) ∙ not_end)
      ];
      phrase = λ lifted x agrees. let e = agrees i (omega arith) in (ap good e ∙ h, ap see (sym e), refl);
      only = λ lifted x agrees b j ph stop. let e = agrees i (omega arith) in (ph.1 ∙ ap see e, ph.2);
    }

    token_bad : good (lexeme_at t i) ≡ false → Failed (token good see) Stop t i (Syntax i)
    token_bad h = record {
      after = omega arith;
      within = in_text;
      never = λ lifted r x agrees b j ph stop. clash (good (lexeme_at t i)) (ap good (sym (agrees i (omega arith))) ∙ ph.0) h;
      viable = λ lifted is lifts z.
          let e = cut_at t i some z in_text in
          record {
            text = cut t i (some ∷ z);
            agrees = cut_agrees t i (some ∷ z) in_text;
            value = see some;
            end = i + 1;
            phrase = (ap good e ∙ is_good, ap see (sym e), refl);
            late = omega arith;
            rest = cut_more t i some z in_text;
          };
    }

    token_case : (b : Bool) → good (lexeme_at t i) ≡ b → Exact (token good see) Stop t i (cond b (Ok (see (lexeme_at t i), i + 1)) (Err (Syntax i)))
    token_case true h = token_good h
    token_case false h = token_bad h

    pub token_exact : Exact (token good see) Stop t i (token_read good see t i)
    token_exact = token_case (good (lexeme_at t i)) refl

-- ## one token that a limit may refuse

module _ {A : Type 0} (rule : Rule) (full : Text → ℕ → Bool) (depends : (t x : Text) (i : ℕ) → Agrees t x (i + 1) → full x i ≡ full t i)
    (good : Lexeme → Bool) (see : Lexeme → A) (some : Lexeme) (is_good : good some ≡ true) (not_end : good the_end ≡ false)
    (passable : (lifted : Lifted) (x : Text) (j : ℕ) → IsDeepFrom lifted j → lexeme_at x j ≡ some → (lifted rule j ≡ true) ⊎ (full x j ≡ false)) where
  abbrev pub ruled : Rel A
  ruled a = unless rule full (token good see a)

  pub ruled_has : HasPhrase ruled
  unfolding token_has
  ruled_has z = record {
    start = some ∷ z;
    grows = λ x j lifted is rest.
        let g = (token_has good see some is_good not_end z).grows x j lifted is rest in
        record { value = g.value; end = g.end; phrase = (passable lifted x j is (at_rest x j some z rest), g.phrase); late = g.late; rest = g.rest };
  }

  module _ (Stop : Stops) (t : Text) (i : ℕ) (in_text : i ≤ length t) where
    ruled_bad : good (lexeme_at t i) ≡ false → Failed ruled Stop t i (Syntax i)
    ruled_bad h = none_exact ruled Stop t i in_text ruled_has (λ lifted x e b j ph stop. clash (good (lexeme_at t i)) (ap good (sym e) ∙ ph.1.0) h)

    ruled_refused : good (lexeme_at t i) ≡ true → full t i ≡ true → Failed ruled Stop t i (Passes rule i)
    ruled_refused h f =
        let found = token_good good see some is_good not_end Stop t i in_text h in
        record {
          after = omega arith;
          within = found.within;
          never = λ lifted r x agrees b j ph stop. elim ph.0 [
            | inl free ↦ clash (lifted rule i) free r
            | inr below ↦ clash (full t i) f (sym (depends t x i agrees) ∙ below)
          ];
          viable = λ lifted is lifts z. record {
            text = cut t (i + 1) z;
            agrees = cut_agrees t (i + 1) z found.within;
            value = see (lexeme_at t i);
            end = i + 1;
            phrase = (inl lifts, found.phrase lifted (cut t (i + 1) z) (cut_agrees t (i + 1) z found.within));
            late = omega arith;
            rest = cut_rest t (i + 1) z found.within;
          };
        }

    ruled_good : good (lexeme_at t i) ≡ true → full t i ≡ false → Found ruled Stop t i (see (lexeme_at t i)) (i + 1)
    ruled_good h f =
        let found = token_good good see some is_good not_end Stop t i in_text h in
        record {
          after = found.after;
          within = found.within;
          phrase = λ lifted x agrees. (inr (depends t x i agrees ∙ f), found.phrase lifted x agrees);
          only = λ lifted x agrees b j ph stop. found.only lifted x agrees b j ph.1 stop;
        }

    ruled_case : (b c : Bool) → good (lexeme_at t i) ≡ b → full t i ≡ c
        → Exact ruled Stop t i (cond b (cond c (Err (Passes rule i)) (Ok (see (lexeme_at t i), i + 1))) (Err (Syntax i)))
    ruled_case false c h f = ruled_bad h
    ruled_case true true h f = ruled_refused h f
    ruled_case true false h f = ruled_good h f

    pub ruled_exact : Exact ruled Stop t i (ruled_read rule full good see t i)
    ruled_exact = ruled_case (good (lexeme_at t i)) (full t i) refl refl

-- ## an option, told by the next token

module _ {A : Type 0} (P : Rel A) (go : Lexeme → Bool) (Stop : Stops)
    (first : (lifted : Lifted) (x : Text) (i j : ℕ) (a : A) → P a lifted x i j → go (lexeme_at x i) ≡ true)
    (stopped : (x : Text) (j : ℕ) → Stop x j → go (lexeme_at x j) ≡ false) where
  module _ (t : Text) (i : ℕ) (in_text : i ≤ length t) where
    some_back : go (lexeme_at t i) ≡ true → (lifted : Lifted) (x : Text) → lexeme_at x i ≡ lexeme_at t i → (c : Option A) (j : ℕ)
        → optional P c lifted x i j → Stop x j → Part P (optional P) Some lifted x i j c
    some_back h lifted x e None j ph stop = clash (go (lexeme_at x i)) (ap go e ∙ h) (let s : go (lexeme_at x i) ≡ false = subst (λ (k : ℕ). go (lexeme_at x k) ≡ false) ph (stopped x j stop) in s)
    some_back h lifted x e (Some a) j ph stop = record { part = a; is = refl; phrase = ph }

    none_found : go (lexeme_at t i) ≡ false → Found (optional P) Stop t i None i
    none_found h = record {
      after = omega arith;
      within = in_text;
      phrase = λ lifted x agrees. refl;
      only = λ lifted x agrees. none_only h lifted x (agrees i (omega arith));
    } where
      none_only : go (lexeme_at t i) ≡ false → (lifted : Lifted) (x : Text) → lexeme_at x i ≡ lexeme_at t i → (c : Option A) (j : ℕ)
          → optional P c lifted x i j → Stop x j → (c ≡ None) × (j ≡ i)
      none_only h lifted x e None j ph stop = (refl, ph)
      none_only h lifted x e (Some a) j ph stop = clash (go (lexeme_at x i)) (first lifted x i j a ph) (ap go e ∙ h)

    optional_case : (item : ℕ → Read A) → Exact P Stop t i (item i) → (b : Bool) → go (lexeme_at t i) ≡ b
        → Exact (optional P) Stop t i (cond b (turned Some (item i)) (Ok (None, i)))
    optional_case item x true h = turned_exact P (optional P) Some (λ lifted x i j a ph. ph) Stop t i (some_back h) (item i) x
    optional_case item x false h = none_found h

    pub optional_exact : (item : ℕ → Read A) → Exact P Stop t i (item i) → Exact (optional P) Stop t i (optional_read go item t i)
    optional_exact item x = optional_case item x (go (lexeme_at t i)) refl

pub optional_has : {A : Type 0} (P : Rel A) → HasPhrase (optional P)
optional_has P z = record { start = z; grows = λ x j lifted is rest. record { value = None; end = j; phrase = refl; late = omega arith; rest = rest } }

-- ## a list, while the next token begins an item

pub many_has : {A : Type 0} (P : Rel A) → HasPhrase (many P)
many_has P z = record { start = z; grows = λ x j lifted is rest. record { value = []; end = j; phrase = refl; late = omega arith; rest = rest } }

module _ {A : Type 0} (P : Rel A) (go : Lexeme → Bool) (StopP Stop : Stops)
    (first : (lifted : Lifted) (x : Text) (i j : ℕ) (a : A) → P a lifted x i j → go (lexeme_at x i) ≡ true)
    (stopped : (x : Text) (j : ℕ) → Stop x j → go (lexeme_at x j) ≡ false)
    (item_stop : (x : Text) (j : ℕ) → Stop x j → StopP x j)
    (next_stop : (x : Text) (j : ℕ) → go (lexeme_at x j) ≡ true → StopP x j) where
  many_meets : Meets (List A) StopP (many P) Stop
  many_meets lifted x m j [] ph stop = item_stop x m (subst (λ (k : ℕ). Stop x k) ph stop)
  many_meets lifted x m j (a ∷ rest) ph stop = next_stop x m (first lifted x m ph.0 a ph.1)

  abbrev consed : A × List A → List A
  consed p = p.0 ∷ p.1

  module _ (t : Text) (base : ℕ) (item : ℕ → Read A)
      (moves : (i : ℕ) (a : A) (m : ℕ) → Found P StopP t i a m → i < m)
      (exact : (i : ℕ) → base ≤ i → i ≤ length t → Exact P StopP t i (item i)) where
    cons_back : (i : ℕ) → go (lexeme_at t i) ≡ true → (lifted : Lifted) (x : Text) → lexeme_at x i ≡ lexeme_at t i → (c : List A) (j : ℕ)
        → many P c lifted x i j → Stop x j → Part (pair P (many P)) (many P) consed lifted x i j c
    cons_back i h lifted x e [] j ph stop = clash (go (lexeme_at x i)) (ap go e ∙ h) (subst (λ (k : ℕ). go (lexeme_at x k) ≡ false) ph (stopped x j stop))
    cons_back i h lifted x e (a ∷ rest) j ph stop = record { part = (a, rest); is = refl; phrase = ph }

    nil_only : (i : ℕ) → go (lexeme_at t i) ≡ false → (lifted : Lifted) (x : Text) → lexeme_at x i ≡ lexeme_at t i → (c : List A) (j : ℕ)
        → many P c lifted x i j → Stop x j → (c ≡ []) × (j ≡ i)
    nil_only i h lifted x e [] j ph stop = (refl, ph)
    nil_only i h lifted x e (a ∷ rest) j ph stop = clash (go (lexeme_at x i)) (first lifted x i ph.0 a ph.1) (ap go e ∙ h)

    many_case : (n i : ℕ) → base ≤ i → i ≤ length t → (rest : (m : ℕ) → m ≤ length t → i < m → Exact (many P) Stop t m (many_read go item t n m))
        → (b : Bool) → go (lexeme_at t i) ≡ b → Exact (many P) Stop t i (cond b (turned consed (and_then (item i) (λ a m. many_read go item t n m))) (Ok ([], i)))
    many_case n i based in_text rest true h =
        turned_exact (pair P (many P)) (many P) consed (λ lifted x i j a ph. ph) Stop t i (cons_back i h) _
        (pair_exact P (many P) StopP Stop many_meets (many_has P) t i (item i) (λ a m. many_read go item t n m) (exact i based in_text)
        (λ a m found. rest m found.within (moves i a m found)))
    many_case n i based in_text rest false h = record {
      after = omega arith;
      within = in_text;
      phrase = λ lifted x agrees. refl;
      only = λ lifted x agrees. nil_only i h lifted x (agrees i (omega arith));
    }

    pub many_exact : (n i : ℕ) → base ≤ i → i ≤ length t → length t < n + i → Exact (many P) Stop t i (many_read go item t n i)
    many_exact zero i based in_text enough = absurd (omega arith)
    many_exact (suc n) i based in_text enough = many_case n i based in_text (λ m h lt. many_exact n m (omega arith) h (omega arith)) (go (lexeme_at t i)) refl

-- ## marks

abbrev pub of_symbol : ℕ → Lexeme
of_symbol s = record { symbol = s; at = 0; octets = [] }

abbrev pub marked : ℕ → Rel (Unit {0})
marked s a = mark s

abbrev pub is_a : ℕ → Lexeme → Bool
is_a s a = is a.symbol s

module _ (s : ℕ) (not_end : is 0 s ≡ false) where
  mark_forth : (lifted : Lifted) (x : Text) (i j : ℕ) (a : Unit {0}) → token (is_a s) to_unit a lifted x i j → mark s lifted x i j
  mark_forth lifted x i j a ph = (eqb-true (symbol_at x i) s ph.0, ph.2)

  mark_back : (t : Text) (i : ℕ) (Stop : Stops) (lifted : Lifted) (x : Text) → lexeme_at x i ≡ lexeme_at t i → (c : Unit {0}) (j : ℕ)
      → mark s lifted x i j → Stop x j → Part (token (is_a s) to_unit) (marked s) (λ a. a) lifted x i j c
  mark_back t i Stop lifted x e c j ph stop = record { part = tt; is = refl; phrase = (eq-eqb (symbol_at x i) s ph.0, refl, ph.1) }

  mark_turned : (r : Read (Unit {0})) → turned (λ (a : Unit {0}). a) r ≡ r
  mark_turned (Ok x) = refl
  mark_turned (Err f) = refl

  pub mark_exact : (Stop : Stops) (t : Text) (i : ℕ) → i ≤ length t → Exact (marked s) Stop t i (mark_read s t i)
  mark_exact Stop t i in_text =
      subst (λ (r : Read (Unit {0})). Exact (marked s) Stop t i r) (mark_turned (mark_read s t i))
      (turned_exact (token (is_a s) to_unit) (marked s) (λ a. a) mark_forth Stop t i (mark_back t i Stop) (mark_read s t i)
      (token_exact (is_a s) to_unit (of_symbol s) (eq-eqb s s refl) not_end Stop t i in_text))

  pub mark_has : HasPhrase (marked s)
  mark_has z = record {
    start = of_symbol s ∷ z;
    grows = λ x j lifted is rest.
        let e = at_rest x j (of_symbol s) z rest in
        record { value = tt; end = j + 1; phrase = (ap (λ (a : Lexeme). a.symbol) e, refl); late = omega arith; rest = rest_more x j (of_symbol s) z rest };
  }

-- ## phrases of parts

pub pair_has : {A B : Type 0} (P : Rel A) (Q : Rel B) → HasPhrase P → HasPhrase Q → HasPhrase (pair P Q)
pair_has P Q p q z =
    let b = q z in
    let a = p b.start in
    record {
      start = a.start;
      grows = λ x j lifted is rest.
          let g = a.grows x j lifted is rest in
          let h = b.grows x g.end lifted (deep_later lifted _ _ g.late is) g.rest in
          record { value = (g.value, h.value); end = h.end; phrase = (g.end, g.phrase, h.phrase); late = omega (arith, g.late, h.late); rest = h.rest };
    }

pub turned_has : {A C : Type 0} (P : Rel A) (Whole : Rel C) (make : A → C)
    (forth : (lifted : Lifted) (x : Text) (i j : ℕ) (a : A) → P a lifted x i j → Whole (make a) lifted x i j) → HasPhrase P → HasPhrase Whole
turned_has P Whole make forth p z =
    let a = p z in
    record {
      start = a.start;
      grows = λ x j lifted is rest.
          let g = a.grows x j lifted is rest in
          record { value = make g.value; end = g.end; phrase = forth lifted x j g.end g.value g.phrase; late = g.late; rest = g.rest };
    }

-- A phrase that begins with a token takes one.
pub moves_of : {A : Type 0} (P : Rel A) (go : Lexeme → Bool) (StopP : Stops) → go the_end ≡ false
    → ((lifted : Lifted) (x : Text) (i j : ℕ) (a : A) → P a lifted x i j → go (lexeme_at x i) ≡ true)
    → (t : Text) (i : ℕ) (a : A) (m : ℕ) → Found P StopP t i a m → i < m
moves_of P go StopP not_end first t i a m found = elim (dec_lt i m) as (λ _. i < m) [
  | yes lt ↦ lt
  | no ge ↦
      let here : m ≡ i = omega (arith, found.after) in
      let in_text : i ≤ length t = omega (arith, found.within) in
      let x = cut t i [] in
      let agrees : Agrees t x m = subst (λ (k : ℕ). Agrees t x k) (sym here) (cut_agrees t i [] in_text) in
      let past : lexeme_at x i ≡ the_end = sym (rw add-zero at (get_or-drop i x 0 the_end)) ∙ ap (λ (l : Text). lexeme_at l 0) (cut_drop t i [] in_text) in
      clash (go (lexeme_at x i)) (first (λ _ _. true) x i m a (found.phrase (λ _ _. true) x agrees)) (ap go past ∙ not_end)
]
