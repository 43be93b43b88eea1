-- More ways to put exact readings together.
use Rattle.std.proofs.Common.{◌≡◌, ℕ, ◌+◌, ◌≤◌, Bool, true, false, cond, List, [], ◌∷◌, length, refl, sym, ap, subst, ◌∙◌, eqb, eq-eqb, Option, Some, None, Ok, Err, ◌⊎◌, inl, inr, ◌||◌, not}
use Rattle.std.proofs.lemmas.Bool.{eqb-true}
use Rattle.std.proofs.lemmas.Bool.Decides.{eqb_tells}
use Rattle.nd_lemmas.proofs.Booleans.{clash}
use Rattle.idl_grammar.specs.Text.{Lexeme, Text, lexeme_at, symbol_at, is, is_in, Lifted, Rel, mark, optional, ◌∣◌}
use Rattle.idl_grammar.specs.ReadPhrases.{Syntax, Read, and_then, join, turned, mark_read, choice_read}
use Rattle.idl_grammar.proofs.Exact.{Stops, Exact, HasPhrase, Meets, Part, turned_exact}
use Rattle.idl_grammar.proofs.Parts.{token_exact, token_has, of_symbol, mark_exact, marked, optional_exact, optional_has, turned_has}
use Rattle.idl_grammar.proofs.Sequences.{stops, Begins, BeginsOr, disjoint, subset, apart, in_more, choice_exact, choice_begins}
use Rattle.idl_grammar.specs.Symbols as symbol
use Rattle.idl_grammar.specs.Expressions.{Meant, symbols_of, value_of, names, spelling, spelled, placed, ident}
use Rattle.idl_grammar.specs.ReadExpressions.{spelled_read, placed_read, ident_read}
use Rattle.idl_grammar.specs.Grammar.{flag, one_of}
use Rattle.idl_grammar.specs.Reading.{branch_read, bind_read, unless_read, flag_read, one_of_read}

-- ## The same reading for another relation

pub turned_same : {A : Type 0} (r : Read A) → turned (λ (a : A). a) r ≡ r
turned_same (Ok x) = refl
turned_same (Err f) = refl

pub turned_twice : {A B C : Type 0} (f : A → B) (g : B → C) (r : Read A) → turned g (turned f r) ≡ turned (λ a. g (f a)) r
turned_twice f g (Ok x) = refl
turned_twice f g (Err e) = refl

module _ {A : Type 0} (P Whole : Rel A) (forth : (lifted : Lifted) (x : Text) (i j : ℕ) (a : A) → P a lifted x i j → Whole a lifted x i j)
    (Stop : Stops) (t : Text) (i : ℕ) (back : (lifted : Lifted) (x : Text) → lexeme_at x i ≡ lexeme_at t i → (c : A) (j : ℕ) → Whole c lifted x i j → Stop x j → P c lifted x i j) where
  pub changed_exact : (r : Read A) → Exact P Stop t i r → Exact Whole Stop t i r
  changed_exact r e =
      subst (λ (v : Read A). Exact Whole Stop t i v) (turned_same r)
      (turned_exact P Whole (λ (a : A). a) forth Stop t i (λ lifted x same c j ph stop. record { part = c; is = refl; phrase = back lifted x same c j ph stop }) r e)

-- a weaker end of a phrase
pub stopped_exact : {A : Type 0} (P : Rel A) (StopP Stop : Stops) (t : Text) (i : ℕ) → ((x : Text) (j : ℕ) → Stop x j → StopP x j) → (r : Read A) → Exact P StopP t i r → Exact P Stop t i r
stopped_exact P StopP Stop t i less (Ok x) f = record {
  after = f.after;
  within = f.within;
  phrase = f.phrase;
  only = λ lifted x agrees b j ph stop. f.only lifted x agrees b j ph (less x j stop);
}
stopped_exact P StopP Stop t i less (Err e) f = record {
  after = f.after;
  within = f.within;
  viable = f.viable;
  never = λ lifted r x agrees b j ph stop. f.never lifted r x agrees b j ph (less x j stop);
}

-- the same for a relation that is the same where the reading begins
pub here_exact : {A : Type 0} (P Q : Rel A) (Stop : Stops) (t : Text) (i : ℕ)
    → ((lifted : Lifted) (x : Text) (j : ℕ) (a : A) → P a lifted x i j → Q a lifted x i j) → ((lifted : Lifted) (x : Text) (j : ℕ) (a : A) → Q a lifted x i j → P a lifted x i j)
    → (r : Read A) → Exact P Stop t i r → Exact Q Stop t i r
here_exact P Q Stop t i forth back (Ok x) f = record {
  after = f.after;
  within = f.within;
  phrase = λ lifted y agrees. forth lifted y x.1 x.0 (f.phrase lifted y agrees);
  only = λ lifted y agrees b j ph stop. f.only lifted y agrees b j (back lifted y j b ph) stop;
}
here_exact P Q Stop t i forth back (Err e) f = record {
  after = f.after;
  within = f.within;
  never = λ lifted r y agrees b j ph stop. f.never lifted r y agrees b j (back lifted y j b ph) stop;
  viable = λ lifted is lifts z.
      let c = f.viable lifted is lifts z in
      record { text = c.text; agrees = c.agrees; value = c.value; end = c.end; phrase = forth lifted c.text c.end c.value c.phrase; late = c.late; rest = c.rest };
}

-- ## Branches

branch_case : {A B C : Type 0} (f : A ⊎ B → C) (b : Bool) (r : Read A) (s : Read B)
    → turned f (cond b (turned inl r) (turned inr s)) ≡ cond b (turned (λ (a : A). f (inl a)) r) (turned (λ (a : B). f (inr a)) s)
branch_case f true r s = turned_twice inl f r
branch_case f false r s = turned_twice inr f s

-- a choice, and what is made of it, is a branch
pub branch_is : {A B C : Type 0} (f : A ⊎ B → C) (firsts : List ℕ) (t : Text) (i : ℕ) (r : Read A) (s : Read B)
    → turned f (choice_read firsts t i r s) ≡ branch_read firsts t i (turned (λ (a : A). f (inl a)) r) (turned (λ (a : B). f (inr a)) s)
branch_is f firsts t i r s = branch_case f (is_in firsts (symbol_at t i)) r s

-- two alternatives of a whole, told by the next symbol
module _ {A B C : Type 0} (P : Rel A) (Q : Rel B) (Whole : Rel C) (f : A ⊎ B → C) (firsts others : List ℕ) (begins : Begins P firsts) (else_begins : Begins Q others)
    (apart_is : disjoint others firsts ≡ true)
    (forth : (lifted : Lifted) (x : Text) (i j : ℕ) (a : A ⊎ B) → (P ∣ Q) a lifted x i j → Whole (f a) lifted x i j)
    (back : (lifted : Lifted) (x : Text) (i j : ℕ) (c : C) → Whole c lifted x i j → Part (P ∣ Q) Whole f lifted x i j c) where
  pub branch_exact : (Stop : Stops) (t : Text) (i : ℕ) (r : Read A) (s : Read B) → (is_in firsts (symbol_at t i) ≡ true → Exact P Stop t i r) → Exact Q Stop t i s
      → Exact Whole Stop t i (branch_read firsts t i (turned (λ (a : A). f (inl a)) r) (turned (λ (a : B). f (inr a)) s))
  branch_exact Stop t i r s x y =
      subst (λ (v : Read C). Exact Whole Stop t i v) (branch_is f firsts t i r s)
      (turned_exact (P ∣ Q) Whole f forth Stop t i (λ lifted x e c j ph stop. back lifted x i j c ph) _ (choice_exact P Q firsts others begins else_begins apart_is Stop t i r s x y))

  pub branch_begins : (all : List ℕ) → subset firsts all ≡ true → subset others all ≡ true → Begins Whole all
  branch_begins all p q lifted x i j c ph =
      let part = back lifted x i j c ph in
      choice_begins P Q firsts others all begins else_begins p q lifted x i j part.part part.phrase

-- a value, what depends on it, and what is made of both
pub bind_is : {A B C : Type 0} (make : A → B → C) (r : Read A) (g : A → ℕ → Read B) → turned (λ (p : A × B). make p.0 p.1) (and_then r g) ≡ bind_read r (λ a m. turned (make a) (g a m))
bind_is make (Err f) g = refl
bind_is {A = A} {B = B} make (Ok x) g = by_case (g x.0 x.1) where
  by_case : (s : Read B) → turned (λ (p : A × B). make p.0 p.1) (join x.0 s) ≡ turned (make x.0) s
  by_case (Err f) = refl
  by_case (Ok y) = refl

-- readings that agree wherever they are asked
pub bind_alike : {A B : Type 0} (r : Read A) (g h : A → ℕ → Read B) → ((a : A) (m : ℕ) → g a m ≡ h a m) → bind_read r g ≡ bind_read r h
bind_alike (Err f) g h same = refl
bind_alike (Ok x) g h same = same x.0 x.1

-- ## A word that may stand or not

-- a symbol that is on a list is no symbol that is not
pub not_one : (all : List ℕ) (s c : ℕ) → is_in all s ≡ true → is_in all c ≡ false → is c s ≡ false
not_one all s c in_all out = elim (eqb_tells c s) as (λ _. is c s ≡ false) [
  | inl e ↦ clash (is_in all s) in_all (ap (λ (v : ℕ). is_in all v) (sym e.1) ∙ out)
  | inr n ↦ n.0
]

pub not_first : (all : List ℕ) (s c : ℕ) → is_in all s ≡ false → is_in all c ≡ true → is c s ≡ false
not_first all s c out in_all = elim (eqb_tells c s) as (λ _. is c s ≡ false) [
  | inl e ↦ clash (is_in all c) in_all (ap (λ (v : ℕ). is_in all v) e.1 ∙ out)
  | inr n ↦ n.0
]

pub alone_in : (s c : ℕ) → is c s ≡ true → is_in (s ∷ []) c ≡ true
alone_in s c e = ap (λ (b : Bool). b || false) e

abbrev pub flag_of : Option (Unit {0}) → Bool
flag_of None = false
flag_of (Some u) = true

flag_case : (b : Bool) (i : ℕ) → turned flag_of (cond b (turned Some (cond b (Ok (tt, i + 1)) (Err (Syntax i)))) (Ok (None, i))) ≡ cond b (Ok (true, i + 1)) (Ok (false, i))
flag_case true i = refl
flag_case false i = refl

module _ (s : ℕ) (real : is 0 s ≡ false) where
  flag_forth : (lifted : Lifted) (x : Text) (i j : ℕ) (a : Option (Unit {0})) → optional (marked s) a lifted x i j → flag s (flag_of a) lifted x i j
  flag_forth lifted x i j None ph = ph
  flag_forth lifted x i j (Some u) ph = ph

  flag_back : (lifted : Lifted) (x : Text) (i j : ℕ) (c : Bool) → flag s c lifted x i j → Part (optional (marked s)) (flag s) flag_of lifted x i j c
  flag_back lifted x i j true ph = record { part = Some tt; is = refl; phrase = ph }
  flag_back lifted x i j false ph = record { part = None; is = refl; phrase = ph }

  pub flag_exact : (all : List ℕ) → is_in all s ≡ true → (t : Text) (i : ℕ) → i ≤ length t → Exact (flag s) (stops all) t i (flag_read s t i)
  flag_exact all in_all t i in_text =
      subst (λ (r : Read Bool). Exact (flag s) (stops all) t i r) (flag_case (is (symbol_at t i) s) i)
      (turned_exact (optional (marked s)) (flag s) flag_of flag_forth (stops all) t i (λ lifted x e c j ph stop. flag_back lifted x i j c ph) _
      (optional_exact (marked s) (λ a. is a.symbol s) (stops all) (λ lifted x i j a ph. eq-eqb (symbol_at x i) s ph.0) (λ x j stop. not_one all s (symbol_at x j) in_all stop) t i in_text
      (mark_read s t) (mark_exact s real (stops all) t i in_text)))

  pub flag_has : HasPhrase (flag s)
  flag_has = turned_has (optional (marked s)) (flag s) flag_of flag_forth (optional_has (marked s))

  pub flag_begins : BeginsOr (flag s) (s ∷ [])
  flag_begins lifted x i j true ph = inl (alone_in s (symbol_at x i) (eq-eqb (symbol_at x i) s ph.0))
  flag_begins lifted x i j false ph = inr ph

-- ## Tokens

module _ (s : ℕ) (real : is 0 s ≡ false) where
  pub mark_begins : Begins (marked s) (s ∷ [])
  mark_begins lifted x i j u ph = alone_in s (symbol_at x i) (eq-eqb (symbol_at x i) s ph.0)

  pub spelled_exact : (Stop : Stops) (t : Text) (i : ℕ) → i ≤ length t → Exact (spelled s) Stop t i (spelled_read s t i)
  spelled_exact Stop t i in_text = token_exact (λ a. is a.symbol s) spelling (of_symbol s) (eq-eqb s s refl) real Stop t i in_text

  pub spelled_has : HasPhrase (spelled s)
  spelled_has = token_has (λ a. is a.symbol s) spelling (of_symbol s) (eq-eqb s s refl) real

  pub spelled_begins : Begins (spelled s) (s ∷ [])
  spelled_begins lifted x i j u ph = alone_in s (symbol_at x i) ph.0

  pub placed_exact : (Stop : Stops) (t : Text) (i : ℕ) → i ≤ length t → Exact (placed s) Stop t i (placed_read s t i)
  placed_exact Stop t i in_text = token_exact (λ a. is a.symbol s) (λ a. a.at) (of_symbol s) (eq-eqb s s refl) real Stop t i in_text

  pub placed_has : HasPhrase (placed s)
  placed_has = token_has (λ a. is a.symbol s) (λ a. a.at) (of_symbol s) (eq-eqb s s refl) real

  pub placed_begins : Begins (placed s) (s ∷ [])
  placed_begins lifted x i j u ph = alone_in s (symbol_at x i) ph.0

module _ {A : Type 0} (otherwise : A) (list : List (Meant A)) (s : ℕ) (good : is_in (symbols_of list) s ≡ true) (real : is_in (symbols_of list) 0 ≡ false) where
  pub one_of_exact : (Stop : Stops) (t : Text) (i : ℕ) → i ≤ length t → Exact (one_of otherwise list) Stop t i (one_of_read otherwise list t i)
  one_of_exact Stop t i in_text = token_exact (λ a. is_in (symbols_of list) a.symbol) (λ a. value_of otherwise list a.symbol) (of_symbol s) good real Stop t i in_text

  pub one_of_has : HasPhrase (one_of otherwise list)
  one_of_has = token_has (λ a. is_in (symbols_of list) a.symbol) (λ a. value_of otherwise list a.symbol) (of_symbol s) good real

  pub one_of_begins : Begins (one_of otherwise list) (symbols_of list)
  one_of_begins lifted x i j u ph = ph.0

-- ## Names

pub name_is : (inside : Bool) → is_in (names inside) symbol.Name ≡ true
unfolding names
name_is true = refl
name_is false = refl

pub name_real : (inside : Bool) → is_in (names inside) 0 ≡ false
unfolding names
name_real true = refl
name_real false = refl

module _ (inside : Bool) where
  pub ident_exact : (Stop : Stops) (t : Text) (i : ℕ) → i ≤ length t → Exact (ident inside) Stop t i (ident_read inside t i)
  ident_exact Stop t i in_text = token_exact (λ a. is_in (names inside) a.symbol) spelling (of_symbol symbol.Name) (name_is inside) (name_real inside) Stop t i in_text

  pub ident_has : HasPhrase (ident inside)
  ident_has = token_has (λ a. is_in (names inside) a.symbol) spelling (of_symbol symbol.Name) (name_is inside) (name_real inside)

  pub ident_begins : Begins (ident inside) (names inside)
  ident_begins lifted x i j u ph = ph.0

-- ## Nothing before a mark, else an item

not_case : {A : Type 0} (b : Bool) (r s : Read A) → cond (not b) r s ≡ cond b s r
not_case true r s = refl
not_case false r s = refl

module _ {A : Type 0} (P : Rel A) (firsts : List ℕ) (begins : Begins P firsts) (s : ℕ) (apart_is : is_in firsts s ≡ false) where
  -- the mark is next
  abbrev pub before : Stops
  before x j = is (symbol_at x j) s ≡ true

  pub unless_exact : (StopP : Stops) → ((x : Text) (j : ℕ) → before x j → StopP x j) → (t : Text) (i : ℕ) → i ≤ length t → (item : ℕ → Read A) → Exact P StopP t i (item i)
      → Exact (optional P) before t i (unless_read s t item i)
  unless_exact StopP less t i in_text item exact =
      subst (λ (r : Read (Option A)). Exact (optional P) before t i r) (not_case (is (symbol_at t i) s) (turned Some (item i)) (Ok (None, i)))
      (optional_exact P (λ a. not (is a.symbol s)) before (λ lifted x i j a ph. ap (λ (b : Bool). not b) (not_first firsts s (symbol_at x i) apart_is (begins lifted x i j a ph)))
      (λ x j stop. ap (λ (b : Bool). not b) stop) t i in_text item (stopped_exact P StopP before t i less (item i) exact))

-- the closing mark is what is before it
pub before_meets : (s : ℕ) → Meets (Unit {0}) (λ x j. is (symbol_at x j) s ≡ true) (marked s) (stops [])
before_meets s lifted x m j u ph stop = eq-eqb (symbol_at x m) s ph.0

-- ## One of a list of words

-- what holds of each word and its value
abbrev pub EachMeant : {A : Type 0} → (A → ℕ → Type 0) → List (Meant A) → Type 0
EachMeant Q [] = Unit {0}
EachMeant Q (m ∷ others) = Q m.value m.symbol × EachMeant Q others

pub each_meant : {A : Type 0} (Q : A → ℕ → Type 0) (otherwise : A) (list : List (Meant A)) → EachMeant Q list → (s : ℕ) → is_in (symbols_of list) s ≡ true → Q (value_of otherwise list s) s
each_meant Q otherwise [] all s h = clash false h refl
each_meant {A = A} Q otherwise (m ∷ others) all s h = by_case (each_meant Q otherwise others all.1 s) (eqb s m.symbol) refl h where
  by_case : (is_in (symbols_of others) s ≡ true → Q (value_of otherwise others s) s)
      → (b : Bool) → eqb s m.symbol ≡ b → (b || is_in (symbols_of others) s) ≡ true → Q (cond b m.value (value_of otherwise others s)) s
  by_case rest true e g = subst (λ (v : ℕ). Q m.value v) (sym (eqb-true s m.symbol e)) all.0
  by_case rest false e g = rest g

-- a word of the list, and its value
pub one_word : {A : Type 0} (otherwise : A) (list : List (Meant A)) (s : ℕ) (v : A) → is_in (symbols_of list) s ≡ true → v ≡ value_of otherwise list s
    → (lifted : Lifted) (x : Text) (i j : ℕ) → mark s lifted x i j → one_of otherwise list v lifted x i j
one_word otherwise list s v h e lifted x i j ph =
    (ap (λ (c : ℕ). is_in (symbols_of list) c) ph.0 ∙ h, e ∙ sym (ap (λ (c : ℕ). value_of otherwise list c) ph.0), ph.1)

-- ## One relation or another over the same trees

abbrev pub either : {A : Type 0} → Rel A → Rel A → Rel A
either P Q c lifted x i j = P c lifted x i j ⊎ Q c lifted x i j

module _ {A : Type 0} (P Q : Rel A) (firsts others : List ℕ) (begins : Begins P firsts) (else_begins : Begins Q others) (apart_is : disjoint others firsts ≡ true) where
  module _ (Stop : Stops) (t : Text) (i : ℕ) where
    first_only : is_in firsts (symbol_at t i) ≡ true → (lifted : Lifted) (x : Text) → lexeme_at x i ≡ lexeme_at t i → (c : A) (j : ℕ) → either P Q c lifted x i j → Stop x j → P c lifted x i j
    first_only h lifted x e c j (inl ph) stop = ph
    first_only h lifted x e c j (inr ph) stop =
        clash (is_in firsts (symbol_at x i)) (ap (λ (l : Lexeme). is_in firsts l.symbol) e ∙ h) (apart others firsts (symbol_at x i) apart_is (else_begins lifted x i j c ph))

    second_only : is_in firsts (symbol_at t i) ≡ false → (lifted : Lifted) (x : Text) → lexeme_at x i ≡ lexeme_at t i → (c : A) (j : ℕ) → either P Q c lifted x i j → Stop x j → Q c lifted x i j
    second_only h lifted x e c j (inl ph) stop = clash (is_in firsts (symbol_at x i)) (begins lifted x i j c ph) (ap (λ (l : Lexeme). is_in firsts l.symbol) e ∙ h)
    second_only h lifted x e c j (inr ph) stop = ph

    either_case : (r s : Read A) → (is_in firsts (symbol_at t i) ≡ true → Exact P Stop t i r) → Exact Q Stop t i s → (b : Bool) → is_in firsts (symbol_at t i) ≡ b
        → Exact (either P Q) Stop t i (cond b r s)
    either_case r s x y true h = changed_exact P (either P Q) (λ lifted x i j a ph. inl ph) Stop t i (first_only h) r (x h)
    either_case r s x y false h = changed_exact Q (either P Q) (λ lifted x i j a ph. inr ph) Stop t i (second_only h) s y

    pub either_exact : (r s : Read A) → (is_in firsts (symbol_at t i) ≡ true → Exact P Stop t i r) → Exact Q Stop t i s → Exact (either P Q) Stop t i (branch_read firsts t i r s)
    either_exact r s x y = either_case r s x y (is_in firsts (symbol_at t i)) refl

  pub either_begins : (all : List ℕ) → subset firsts all ≡ true → subset others all ≡ true → Begins (either P Q) all
  either_begins all p q lifted x i j c (inl ph) = in_more firsts all (symbol_at x i) p (begins lifted x i j c ph)
  either_begins all p q lifted x i j c (inr ph) = in_more others all (symbol_at x i) q (else_begins lifted x i j c ph)
