-- What is read exactly is judged rightly.
use Rattle.std.proofs.Common.{◌≡◌, ◌≢◌, ℕ, suc, ◌+◌, ◌-◌, ◌<◌, ◌≤◌, Bool, true, false, [], ◌∷◌, ◌++◌, length, take, cond, refl, sym, ap, subst, arith, ◌∙◌, eqb, not, eq-eqb, Result, Ok, Err, ◌⊎◌, inl}
use Rattle.std.proofs.Common.{inr, length-append, length-take, length-drop}
use Rattle.std.proofs.Math.Decide.{dec_lt}
use Rattle.std.proofs.Math.ListN.{get_or-append}
use Rattle.std.proofs.Math.Seq.{get_or-append_seam}
use Rattle.std.proofs.lemmas.List.{get_or_past, get_or-take, take-append-le}
use Rattle.std.proofs.lemmas.Bool.{le-leb}
use Rattle.std.proofs.lemmas.Bool.Decides.{eqb_tells}
use Rattle.idl_grammar.specs.Text.{Rel, Text, the_end, lexeme_at, Lifted, Rule, Depth, Ban}
use Rattle.idl_grammar.specs.ReadPhrases.{Fault, Syntax, Passes, Read}
use Rattle.idl_grammar.specs.Answers.{begins, derives, strict, lax, limits_before, limits_before_but, all_but, Judges, whole_read}
use Rattle.idl_grammar.proofs.OneVerdict.{Refused, refused_alone, tree_alone}
use Rattle.idl_grammar.proofs.Exact.{place, front, Refuses, Lifts, Agrees, IsDeepFrom, Stops, Found, Failed, Exact}

same_list : (xs ys : Text) → length xs ≡ length ys → ((i : ℕ) → i < length xs → lexeme_at xs i ≡ lexeme_at ys i) → xs ≡ ys
same_list [] [] l same = refl
same_list [] (y ∷ ys) l same = absurd (omega (arith, l))
same_list (x ∷ xs) [] l same = absurd (omega (arith, l))
same_list (x ∷ xs) (y ∷ ys) l same =
    let e : x ≡ y = same 0 (omega arith) in
    let d = same_list xs ys (omega (arith, l)) (λ i h. same (suc i) (omega arith)) in
    cc

-- the end after a text changes nothing at a place
pub ended : (x : Text) (i : ℕ) → lexeme_at (x ++ the_end ∷ []) i ≡ lexeme_at x i
ended x i = elim (dec_lt i (length x)) as (λ _. lexeme_at (x ++ the_end ∷ []) i ≡ lexeme_at x i) [
  | yes lt ↦ get_or-append x (the_end ∷ []) the_end i lt
  | no ge ↦
      let past : length x ≤ i = omega arith in
      at_end past ∙ sym (get_or_past x i the_end past)
] where
  at_end : length x ≤ i → lexeme_at (x ++ the_end ∷ []) i ≡ the_end
  at_end past = elim (eqb_tells i (length x)) as (λ _. lexeme_at (x ++ the_end ∷ []) i ≡ the_end) [
    | inl eq ↦ subst (λ (k : ℕ). lexeme_at (x ++ the_end ∷ []) k ≡ the_end) (sym eq.1) (get_or-append_seam x the_end [] the_end)
    | inr ne ↦ get_or_past (x ++ the_end ∷ []) i the_end (simp length-append (let differs : i ≢ length x = ne.1 in omega arith))
  ]

agrees_of : (t x : Text) (n : ℕ) → begins t n x → Agrees t x n
agrees_of t x n h i lt =
    sym (ended x i)
    ∙ (sym (get_or-take n (x ++ the_end ∷ []) i the_end lt)
    ∙ (ap (λ (l : Text). lexeme_at l i) h
    ∙ (get_or-take n (t ++ the_end ∷ []) i the_end lt ∙ ended t i)))

begins_of : (t x : Text) (n : ℕ) → n ≤ length t → n ≤ length x → Agrees t x n → begins t n x
begins_of t x n h g agrees =
    let in_t : take n (t ++ the_end ∷ []) ≡ take n t = take-append-le n t (the_end ∷ []) h in
    let in_x : take n (x ++ the_end ∷ []) ≡ take n x = take-append-le n x (the_end ∷ []) g in
    in_x ∙ (same_list (take n x) (take n t) (simp length-take (omega arith))
    (λ i lt. let below : i < n = (let l : length (take n x) ≡ n = simp length-take (omega arith) in omega arith) in
    get_or-take n x i the_end below ∙ (agrees i below ∙ sym (get_or-take n t i the_end below))) ∙ sym in_t)

-- what must be lifted so that a text goes on past a fault
abbrev lifted_for : Fault → Lifted
lifted_for (Syntax k) = limits_before k
lifted_for (Passes rule k) = limits_before_but rule k

deep_for : (f : Fault) → IsDeepFrom (lifted_for f) (place f)
deep_for (Syntax k) p h = le-leb k p h
deep_for (Passes Depth k) p h = le-leb k p h
deep_for (Passes Ban k) p h = le-leb k p h

lifts_for : (f : Fault) → Lifts f (lifted_for f)
lifts_for (Syntax k) = tt
lifts_for (Passes Depth k) = le-leb k k (omega arith)
lifts_for (Passes Ban k) = eq-eqb k k refl

stands_at : (rule : Rule) (k : ℕ) → all_but rule k rule k ≡ false
stands_at Depth k = ap (λ (b : Bool). not b) (eq-eqb k k refl)
stands_at Ban k = ap (λ (b : Bool). not b) (eq-eqb k k refl)

module _ {A : Type 0} (P : Rel A) (Stop : Stops) (ends : (x : Text) → Stop x (length x)) (t : Text)
    (real : (i : ℕ) → i < length t → lexeme_at t i ≢ the_end) where
  some_text : (f : Fault) → Failed P Stop t 0 f → (x : Text) × (a : A) × begins t (front f) x × derives P (lifted_for f) a x
  some_text f x =
      let c = x.viable (lifted_for f) (deep_for f) (lifts_for f) [] in
      let past : length c.text ≤ c.end = (let e : length c.text - c.end ≡ 0 = sym (length-drop c.end c.text) ∙ ap length c.rest.1 in omega arith) in
      let whole : c.end ≡ length c.text = omega (arith, c.rest.0) in
      let long : front f ≤ length c.text = omega (arith, c.late) in
      (c.text, c.value, begins_of t c.text (front f) x.within long c.agrees, subst (λ (n : ℕ). P c.value (lifted_for f) c.text 0 n) whole c.phrase)

  no_text : (f : Fault) → Failed P Stop t 0 f → (lifted : Lifted) → Refuses f lifted → (x : Text) (a : A) → begins t (place f + 1) x → derives P lifted a x → ⊥
  no_text f x lifted r u a b ph = x.never lifted r u (agrees_of t u (place f + 1) b) a (length u) ph (ends u)

  failed_judged : (f : Fault) → Failed P Stop t 0 f → Judges P t (Err f)
  failed_judged (Syntax k) x = record { some = some_text (Syntax k) x; none = no_text (Syntax k) x lax tt }
  failed_judged (Passes rule k) x = record { some = some_text (Passes rule k) x; none = no_text (Passes rule k) x (all_but rule k) (stands_at rule k) }

  read_all : (a : A) → Found P Stop t 0 a (length t) → Judges P t (Ok a)
  read_all a x = record {
    derived = x.phrase strict t (λ i lt. refl);
    only = λ b ph. (x.only lax t (λ i lt. refl) b (length t) ph (ends t)).0;
  }

  read_part : (a : A) (m : ℕ) → Found P Stop t 0 a m → m ≢ length t → Judges P t (Err (Syntax m))
  read_part a m x differs =
      let short : m < length t = omega (arith, x.within) in
      let size : length (take m t) ≡ m = simp length-take (omega arith) in
      let agrees : Agrees t (take m t) m = λ i lt. get_or-take m t i the_end lt in
      record {
        some = (
          take m t,
          a,
          begins_of t (take m t) m x.within (omega arith) agrees,
          subst (λ (n : ℕ). P a (limits_before m) (take m t) 0 n) (sym size) (x.phrase (limits_before m) (take m t) agrees),
        );
        none = λ u b h ph.
            let alike = agrees_of t u (m + 1) h in
            let e = (x.only lax u alike b (length u) ph (ends u)).1 in
            real m short (sym (alike m (omega arith)) ∙ get_or_past u m the_end (omega (arith, e)));
      }

  found_judged : (a : A) (m : ℕ) → Found P Stop t 0 a m → ((eqb m (length t) ≡ true) × (m ≡ length t)) ⊎ ((eqb m (length t) ≡ false) × (m ≢ length t))
      → Judges P t (cond (eqb m (length t)) (Ok a) (Err (Syntax m)))
  found_judged a m x (inl eq) =
      subst (λ (b : Bool). Judges P t (cond b (Ok a) (Err (Syntax m)))) (sym eq.0) (read_all a (subst (λ (n : ℕ). Found P Stop t 0 a n) eq.1 x))
  found_judged a m x (inr ne) =
      subst (λ (b : Bool). Judges P t (cond b (Ok a) (Err (Syntax m)))) (sym ne.0) (read_part a m x ne.1)

  pub whole_judged : (r : Read A) → Exact P Stop t 0 r → Judges P t (whole_read r t)
  whole_judged (Err f) x = failed_judged f x
  whole_judged (Ok r) x = found_judged r.0 r.1 x (eqb_tells r.1 (length t))

  refused_of : (f : Fault) → Failed P Stop t 0 f → Refused P t f
  refused_of f x = record {
    viable = λ lifted is lifts.
        let c = x.viable lifted is lifts [] in
        let past : length c.text ≤ c.end = (let e : length c.text - c.end ≡ 0 = sym (length-drop c.end c.text) ∙ ap length c.rest.1 in omega arith) in
        let whole : c.end ≡ length c.text = omega (arith, c.rest.0) in
        let long : front f ≤ length c.text = omega (arith, c.late) in
        record { text = c.text; value = c.value; begins_so = begins_of t c.text (front f) x.within long c.agrees; derived = subst (λ (n : ℕ). P c.value lifted c.text 0 n) whole c.phrase };
    never = no_text f x;
  }

  part_refused : (a : A) (m : ℕ) → Found P Stop t 0 a m → m ≢ length t → Refused P t (Syntax m)
  part_refused a m x differs =
      let short : m < length t = omega (arith, x.within) in
      let size : length (take m t) ≡ m = simp length-take (omega arith) in
      let agrees : Agrees t (take m t) m = λ i lt. get_or-take m t i the_end lt in
      record {
        viable = λ lifted is lifts. record {
          text = take m t;
          value = a;
          begins_so = begins_of t (take m t) m x.within (omega arith) agrees;
          derived = subst (λ (n : ℕ). P a lifted (take m t) 0 n) (sym size) (x.phrase lifted (take m t) agrees);
        };
        never = λ lifted r u b h ph.
            let alike = agrees_of t u (m + 1) h in
            let e = (x.only lifted u alike b (length u) ph (ends u)).1 in
            real m short (sym (alike m (omega arith)) ∙ get_or_past u m the_end (omega (arith, e)));
      }

  alone_at : (a : A) (m : ℕ) → Found P Stop t 0 a m → (v : Result A Fault) → Judges P t v
      → ((eqb m (length t) ≡ true) × (m ≡ length t)) ⊎ ((eqb m (length t) ≡ false) × (m ≢ length t)) → v ≡ cond (eqb m (length t)) (Ok a) (Err (Syntax m))
  alone_at a m x v j (inl eq) =
      let y = subst (λ (n : ℕ). Found P Stop t 0 a n) eq.1 x in
      tree_alone P t a (λ lifted. y.phrase lifted t (λ i lt. refl)) (λ lifted b ph. (y.only lifted t (λ i lt. refl) b (length t) ph (ends t)).0) v j
      ∙ ap (λ (b : Bool). cond b (Ok a) (Err (Syntax m))) (sym eq.0)
  alone_at a m x v j (inr ne) =
      refused_alone P t (Syntax m) (part_refused a m x ne.1) v j ∙ ap (λ (b : Bool). cond b (Ok a) (Err (Syntax m))) (sym ne.0)

  -- what is answered is the one verdict
  pub one_verdict : (r : Read A) → Exact P Stop t 0 r → (v : Result A Fault) → Judges P t v → v ≡ whole_read r t
  one_verdict (Err f) x v j = refused_alone P t f (refused_of f x) v j
  one_verdict (Ok r) x v j = alone_at r.0 r.1 x v j (eqb_tells r.1 (length t))
