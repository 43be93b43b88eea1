-- What it means that a reading is exact, and how exact readings are put together.
use Rattle.std.proofs.Common.{◌≡◌, ℕ, ◌+◌, ◌<◌, ◌≤◌, true, false, length, drop, ap, subst, arith, Ok, Err, ◌∙◌}
use Rattle.idl_grammar.specs.ReadPhrases.{Fault, Syntax, Passes, Read, join, and_then, turned}
use Rattle.idl_grammar.specs.Text.{Text, lexeme_at, Depth, Lifted, ◌▹◌, Rel}

abbrev pub place : Fault → ℕ
place (Syntax k) = k
place (Passes rule k) = k

-- how many tokens still begin a text
abbrev pub front : Fault → ℕ
front (Syntax k) = k
front (Passes rule k) = k + 1

pub front_late : (f : Fault) → place f ≤ front f
front_late (Syntax k) = omega arith
front_late (Passes rule k) = omega arith

-- where a rule must stand for the refusal
abbrev pub Refuses : Fault → Lifted → Type 0
Refuses (Syntax k) lifted = Unit {0}
Refuses (Passes rule k) lifted = lifted rule k ≡ false

-- where it must be lifted for the token to go on
abbrev pub Lifts : Fault → Lifted → Type 0
Lifts (Syntax k) lifted = Unit {0}
Lifts (Passes rule k) lifted = lifted rule k ≡ true

abbrev pub Agrees : Text → Text → ℕ → Type 0
Agrees t x k = (i : ℕ) → i < k → lexeme_at x i ≡ lexeme_at t i

-- the limits of depth are lifted from a place on
abbrev pub IsDeepFrom : Lifted → ℕ → Type 0
IsDeepFrom lifted k = (p : ℕ) → k ≤ p → lifted Depth p ≡ true

abbrev pub Stops : Type 1
Stops = Text → ℕ → Type 0

pub record Found {A : Type 0} (P : Rel A) (Stop : Stops) (t : Text) (i : ℕ) (a : A) (m : ℕ) : Type 0 where
  pub after : i ≤ m
  pub within : m ≤ length t
  pub phrase : (lifted : Lifted) (x : Text) → Agrees t x m → P a lifted x i m
  pub only : (lifted : Lifted) (x : Text) → Agrees t x (m + 1) → (b : A) (j : ℕ) → P b lifted x i j → Stop x j → (b ≡ a) × (j ≡ m)

-- what stands from a place on
abbrev pub Rest : Text → ℕ → Text → Type 0
Rest x j z = (j ≤ length x) × (drop j x ≡ z)

-- a text with the first n tokens, in which a phrase is followed by z
pub record Completed {A : Type 0} (P : Rel A) (lifted : Lifted) (t : Text) (i k n : ℕ) (z : Text) : Type 0 where
  pub text : Text
  pub agrees : Agrees t text n
  pub value : A
  pub end : ℕ
  pub phrase : P value lifted text i end
  pub late : n ≤ end
  pub rest : Rest text end z

pub record Failed {A : Type 0} (P : Rel A) (Stop : Stops) (t : Text) (i : ℕ) (f : Fault) : Type 0 where
  pub after : i ≤ place f
  pub within : front f ≤ length t
  pub never : (lifted : Lifted) → Refuses f lifted → (x : Text) → Agrees t x (place f + 1) → (b : A) (j : ℕ) → P b lifted x i j → Stop x j → ⊥
  pub viable : (lifted : Lifted) → IsDeepFrom lifted (place f) → Lifts f lifted → (z : Text) → Completed P lifted t i (place f) (front f) z

abbrev pub Exact : {A : Type 0} → Rel A → Stops → Text → ℕ → Read A → Type 0
Exact P Stop t i (Ok x) = Found P Stop t i x.0 x.1
Exact P Stop t i (Err f) = Failed P Stop t i f

-- Every text goes on with a phrase, whatever follows.
pub record Grown {A : Type 0} (P : Rel A) (lifted : Lifted) (x : Text) (j : ℕ) (z : Text) : Type 0 where
  pub value : A
  pub end : ℕ
  pub phrase : P value lifted x j end
  pub late : j ≤ end
  pub rest : Rest x end z

pub record Starts {A : Type 0} (P : Rel A) (z : Text) : Type 0 where
  pub start : Text
  pub grows : (x : Text) (j : ℕ) (lifted : Lifted) → IsDeepFrom lifted j → Rest x j start → Grown P lifted x j z

abbrev pub HasPhrase : {A : Type 0} → Rel A → Type 0
HasPhrase P = (z : Text) → Starts P z

-- one after the other

pair_equal : {A B : Type 0} {a a' : A} {b b' : B} → a ≡ a' → b ≡ b' → ◌≡◌ {A = A × B} (a, b) (a', b')
pair_equal p q = cc

abbrev pub pair : {A B : Type 0} → Rel A → Rel B → Rel (A × B)
pair P Q c = P c.0 ▹ Q c.1

pub less : (t x : Text) (m n : ℕ) → m ≤ n → Agrees t x n → Agrees t x m
less t x m n h agrees i lt = agrees i (omega arith)

-- what follows a first part, with a second part that ends well, stops the first
abbrev pub Meets : (B : Type 0) → Stops → Rel B → Stops → Type 0
Meets B StopP Q Stop = (lifted : Lifted) (x : Text) (m j : ℕ) (b : B) → Q b lifted x m j → Stop x j → StopP x m

pub deep_later : (lifted : Lifted) (k m : ℕ) → k ≤ m → IsDeepFrom lifted k → IsDeepFrom lifted m
deep_later lifted k m h is p le = is p (omega arith)

module _ {A B : Type 0} (P : Rel A) (Q : Rel B) (StopP Stop : Stops) (meets : Meets B StopP Q Stop) (has : HasPhrase Q) (t : Text) (i : ℕ) where
  first_fails : (f : Fault) → Failed P StopP t i f → Failed (pair P Q) Stop t i f
  first_fails f x = record {
    after = x.after;
    within = x.within;
    never = λ lifted r y agrees c j ph stop. x.never lifted r y agrees c.0 ph.0 ph.1 (meets lifted y ph.0 j c.1 ph.2 stop);
    viable = λ lifted is lifts z.
        let start = has z in
        let a = x.viable lifted is lifts start.start in
        let b = start.grows a.text a.end lifted (deep_later lifted (place f) a.end (omega (arith, a.late, front_late f)) is) a.rest in
        record {
          text = a.text;
          agrees = a.agrees;
          value = (a.value, b.value);
          end = b.end;
          phrase = (a.end, a.phrase, b.phrase);
          late = omega (arith, a.late, b.late);
          rest = b.rest;
        };
  }

  second_fails : (a : A) (m : ℕ) → Found P StopP t i a m → (f : Fault) → Failed Q Stop t m f → Failed (pair P Q) Stop t i f
  second_fails a m x f y = record {
    after = omega (arith, x.after, y.after);
    within = y.within;
    never = λ lifted r u agrees c j ph stop.
        let e = x.only lifted u (less t u (m + 1) (place f + 1) (omega (arith, y.after)) agrees) c.0 ph.0 ph.1 (meets lifted u ph.0 j c.1 ph.2 stop) in
        y.never lifted r u agrees c.1 j (subst (λ (n : ℕ). Q c.1 lifted u n j) e.1 ph.2) stop;
    viable = λ lifted is lifts z.
        let b = y.viable lifted is lifts z in
        record {
          text = b.text;
          agrees = b.agrees;
          value = (a, b.value);
          end = b.end;
          phrase = (m, x.phrase lifted b.text (less t b.text m (front f) (omega (arith, y.after, front_late f)) b.agrees), b.phrase);
          late = b.late;
          rest = b.rest;
        };
  }

  both : (a : A) (m : ℕ) → Found P StopP t i a m → (b : B) (n : ℕ) → Found Q Stop t m b n → Found (pair P Q) Stop t i (a, b) n
  both a m x b n y = record {
    after = omega (arith, x.after, y.after);
    within = y.within;
    phrase = λ lifted u agrees. (m, x.phrase lifted u (less t u m n y.after agrees), y.phrase lifted u agrees);
    only = λ lifted u agrees c j ph stop.
        let e = x.only lifted u (less t u (m + 1) (n + 1) (omega (arith, y.after)) agrees) c.0 ph.0 ph.1 (meets lifted u ph.0 j c.1 ph.2 stop) in
        let d = y.only lifted u agrees c.1 j (subst (λ (k : ℕ). Q c.1 lifted u k j) e.1 ph.2) stop in
        (pair_equal e.0 d.0, d.1);
  }

  joined : (a : A) (m : ℕ) → Found P StopP t i a m → (s : Read B) → Exact Q Stop t m s → Exact (pair P Q) Stop t i (join a s)
  joined a m x (Err f) y = second_fails a m x f y
  joined a m x (Ok s) y = both a m x s.0 s.1 y

  pub pair_exact : (r : Read A) (g : A → ℕ → Read B) → Exact P StopP t i r
      → ((a : A) (m : ℕ) → Found P StopP t i a m → Exact Q Stop t m (g a m))
      → Exact (pair P Q) Stop t i (and_then r g)
  pair_exact (Err f) g x next = first_fails f x
  pair_exact (Ok a) g x next = joined a.0 a.1 x (g a.0 a.1) (next a.0 a.1 x)

-- an alternative, or a structure of its parts
pub record Part {A C : Type 0} (P : Rel A) (Whole : Rel C) (make : A → C) (lifted : Lifted) (x : Text) (i j : ℕ) (c : C) : Type 0 where
  pub part : A
  pub is : c ≡ make part
  pub phrase : P part lifted x i j

module _ {A C : Type 0} (P : Rel A) (Whole : Rel C) (make : A → C)
    (forth : (lifted : Lifted) (x : Text) (i j : ℕ) (a : A) → P a lifted x i j → Whole (make a) lifted x i j)
    (Stop : Stops) (t : Text) (i : ℕ)
    (back : (lifted : Lifted) (x : Text) → lexeme_at x i ≡ lexeme_at t i → (c : C) (j : ℕ) → Whole c lifted x i j → Stop x j → Part P Whole make lifted x i j c) where
  pub turned_exact : (r : Read A) → Exact P Stop t i r → Exact Whole Stop t i (turned make r)
  turned_exact (Err f) x = record {
    after = x.after;
    within = x.within;
    never = λ lifted r u agrees c j ph stop.
        let p = back lifted u (agrees i (omega (arith, x.after))) c j ph stop in
        x.never lifted r u agrees p.part j p.phrase stop;
    viable = λ lifted is lifts z.
        let b = x.viable lifted is lifts z in
        record {
          text = b.text;
          agrees = b.agrees;
          value = make b.value;
          end = b.end;
          phrase = forth lifted b.text i b.end b.value b.phrase;
          late = b.late;
          rest = b.rest;
        };
  }
  turned_exact (Ok a) x = record {
    after = x.after;
    within = x.within;
    phrase = λ lifted u agrees. forth lifted u i a.1 a.0 (x.phrase lifted u agrees);
    only = λ lifted u agrees c j ph stop.
        let p = back lifted u (agrees i (omega (arith, x.after))) c j ph stop in
        let e = x.only lifted u agrees p.part j p.phrase stop in
        (p.is ∙ ap make e.0, e.1);
  }
