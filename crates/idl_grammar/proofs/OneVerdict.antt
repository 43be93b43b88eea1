-- At most one verdict is right, so each is answered exactly where it is.
use Rattle.std.proofs.Common.{◌≡◌, ◌≢◌, ℕ, zero, suc, ◌+◌, ◌<◌, ◌≤◌, Bool, true, false, [], ◌∷◌, ◌++◌, take, refl, sym, ap, arith, ◌∙◌, eqb, not, ◌&&◌, Result, Ok, Err, inl, inr}
use Rattle.std.proofs.Math.Decide.{dec_lt}
use Rattle.std.proofs.lemmas.Bool.{lt-leb}
use Rattle.std.proofs.lemmas.Bool.Decides.{eqb_tells}
use Rattle.idl_grammar.specs.Text.{Rel, Text, the_end, Lifted, Rule, Depth, Ban}
use Rattle.idl_grammar.specs.ReadPhrases.{Fault, Syntax, Passes}
use Rattle.idl_grammar.specs.Answers.{begins, derives, strict, lax, limits_before, limits_before_but, all_but, is_rule, IsSyntax, IsRefused, IsTree, Judges}
use Rattle.idl_grammar.proofs.Exact.{place, front, front_late, Refuses, Lifts, IsDeepFrom}

-- a text that goes as far as it can
pub record Reaches {A : Type 0} (P : Rel A) (t : Text) (lifted : Lifted) (n : ℕ) : Type 0 where
  pub text : Text
  pub value : A
  pub begins_so : begins t n text
  pub derived : derives P lifted value text

-- what is known of a refusal of a whole text
pub record Refused {A : Type 0} (P : Rel A) (t : Text) (f : Fault) : Type 0 where
  pub viable : (lifted : Lifted) → IsDeepFrom lifted (place f) → Lifts f lifted → Reaches P t lifted (front f)
  pub never : (lifted : Lifted) → Refuses f lifted → (x : Text) (a : A) → begins t (place f + 1) x → derives P lifted a x → ⊥

take_less : (m n : ℕ) (l : Text) → m ≤ n → take m (take n l) ≡ take m l
take_less zero n l h = refl
take_less (suc m) zero l h = absurd (omega arith)
take_less (suc m) (suc n) [] h = refl
take_less (suc m) (suc n) (a ∷ l) h = ap (λ (r : Text). a ∷ r) (take_less m n l (omega arith))

fewer : (t x : Text) (m n : ℕ) → m ≤ n → begins t n x → begins t m x
fewer t x m n h b =
    sym (take_less m n (x ++ the_end ∷ []) h) ∙ (ap (λ (l : Text). take m l) b ∙ take_less m n (t ++ the_end ∷ []) h)

-- ## where rules stand

refuses_before : (f : Fault) (k : ℕ) → place f < k → Refuses f (limits_before k)
refuses_before (Syntax p) k h = tt
refuses_before (Passes Depth p) k h = lt-leb k p h
refuses_before (Passes Ban p) k h = refl

pub unequal : (p k : ℕ) → p ≢ k → eqb p k ≡ false
unequal p k h = elim (eqb_tells p k) as (λ _. eqb p k ≡ false) [ inl e ↦ absurd (h e.1) | inr n ↦ n.0 ]

below : (p k : ℕ) → p < k → p ≢ k
below p k h e = omega arith

refuses_before_but : (f : Fault) (rule : Rule) (k : ℕ) → place f < k → Refuses f (limits_before_but rule k)
refuses_before_but (Syntax p) rule k h = tt
refuses_before_but (Passes Depth p) Depth k h = lt-leb k p h
refuses_before_but (Passes Ban p) Depth k h = refl
refuses_before_but (Passes Depth p) Ban k h = lt-leb k p h
refuses_before_but (Passes Ban p) Ban k h = unequal p k (below p k h)

lifts_lax : (f : Fault) → Lifts f lax
lifts_lax (Syntax p) = tt
lifts_lax (Passes rule p) = refl

nothing_else : (b : Bool) → not (b && false) ≡ true
nothing_else true = refl
nothing_else false = refl

lifted_else : (other rule : Rule) (k p : ℕ) → k < p → all_but rule k other p ≡ true
lifted_else other rule k p h =
    ap (λ (b : Bool). not (is_rule other rule && b)) (unequal p k (λ e. below k p h (sym e))) ∙ nothing_else (is_rule other rule)

lifts_else : (f : Fault) (rule : Rule) (k : ℕ) → k < place f → Lifts f (all_but rule k)
lifts_else (Syntax p) rule k h = tt
lifts_else (Passes other p) rule k h = lifted_else other rule k p h

module _ {A : Type 0} (P : Rel A) (t : Text) (f : Fault) (r : Refused P t f) where
  reach : (lifted : Lifted) → IsDeepFrom lifted (place f) → Lifts f lifted → (n : ℕ) → n ≤ front f → Reaches P t lifted n
  reach lifted is lifts n h =
      let x = r.viable lifted is lifts in
      record { text = x.text; value = x.value; begins_so = fewer t x.text n (front f) h x.begins_so; derived = x.derived }

  no_tree : (a : A) → IsTree P t a → ⊥
  no_tree a x = r.never strict (refuses_strict f) t a refl x.derived where
    refuses_strict : (f : Fault) → Refuses f strict
    refuses_strict (Syntax k) = tt
    refuses_strict (Passes rule k) = refl

  late_syntax : (k : ℕ) → IsSyntax P t k → place f < k → ⊥
  late_syntax k x h = r.never (limits_before k) (refuses_before f k h) x.some.0 x.some.1 (fewer t x.some.0 (place f + 1) k (omega arith) x.some.2) x.some.3

  early_syntax : (k : ℕ) → IsSyntax P t k → k < front f → ⊥
  early_syntax k x h = let y = reach lax (λ p le. refl) (lifts_lax f) (k + 1) (omega arith) in x.none y.text y.value y.begins_so y.derived

  late_refused : (rule : Rule) (k : ℕ) → IsRefused P t rule k → place f < k → ⊥
  late_refused rule k x h = r.never (limits_before_but rule k) (refuses_before_but f rule k h) x.some.0 x.some.1 (fewer t x.some.0 (place f + 1) (k + 1) (omega arith) x.some.2) x.some.3

  early_refused : (rule : Rule) (k : ℕ) → IsRefused P t rule k → k < place f → ⊥
  early_refused rule k x h =
      let y = reach (all_but rule k) (λ p le. lifted_else Depth rule k p (omega arith)) (lifts_else f rule k h) (k + 1) (omega (arith, front_late f)) in
      x.none y.text y.value y.begins_so y.derived

  same_place : (p k : ℕ) → (p < k → ⊥) → (k < p → ⊥) → k ≡ p
  same_place p k a b = elim (dec_lt p k) as (λ _. k ≡ p) [ yes lt ↦ absurd (a lt) | no ge ↦ elim (dec_lt k p) as (λ _. k ≡ p) [ yes lt ↦ absurd (b lt) | no le ↦ omega arith ] ]

same_refusal : {A : Type 0} (P : Rel A) (t : Text) (p k : ℕ) (other rule : Rule) → Refused P t (Passes other p) → IsRefused P t rule k → k ≡ p → ◌≡◌ {A = Fault} (Passes rule k) (Passes other p)
same_refusal P t p k Depth Depth r j e = ap (λ (n : ℕ). Passes Depth n) e
same_refusal P t p k Ban Ban r j e = ap (λ (n : ℕ). Passes Ban n) e
same_refusal P t p k Ban Depth r j e =
    absurd (r.never (limits_before_but Depth k) refl j.some.0 j.some.1 (fewer t j.some.0 (p + 1) (k + 1) (omega arith) j.some.2) j.some.3)
same_refusal P t p k Depth Ban r j e =
    let y = reach P t (Passes Depth p) r (all_but Ban k) (λ q le. refl) refl (k + 1) (omega arith) in
    absurd (j.none y.text y.value y.begins_so y.derived)

-- A verdict beside a refusal is that refusal.
pub refused_alone : {A : Type 0} (P : Rel A) (t : Text) (f : Fault) → Refused P t f → (v : Result A Fault) → Judges P t v → v ≡ Err f
refused_alone P t f r (Ok a) j = absurd (no_tree P t f r a j)
refused_alone P t (Syntax p) r (Err (Syntax k)) j =
    ap (λ (n : ℕ). Err (Syntax n)) (same_place P t (Syntax p) r p k (λ h. late_syntax P t (Syntax p) r k j h) (λ h. early_syntax P t (Syntax p) r k j h))
refused_alone P t (Passes rule p) r (Err (Syntax k)) j =
    let e : k ≡ p + 1 = same_place P t (Passes rule p) r (p + 1) k (λ h. late_syntax P t (Passes rule p) r k j (omega arith)) (λ h. early_syntax P t (Passes rule p) r k j h) in
    absurd (late_syntax P t (Passes rule p) r k j (omega arith))
refused_alone P t (Syntax p) r (Err (Passes rule k)) j =
    let e : k ≡ p = same_place P t (Syntax p) r p k (λ h. late_refused P t (Syntax p) r rule k j h) (λ h. early_refused P t (Syntax p) r rule k j h) in
    absurd (r.never (limits_before_but rule k) tt j.some.0 j.some.1 (fewer t j.some.0 (p + 1) (k + 1) (omega arith) j.some.2) j.some.3)
refused_alone P t (Passes other p) r (Err (Passes rule k)) j =
    let e : k ≡ p = same_place P t (Passes other p) r p k (λ h. late_refused P t (Passes other p) r rule k j h) (λ h. early_refused P t (Passes other p) r rule k j h) in
    ap (λ (f : Fault). Err f) (same_refusal P t p k other rule r j e)

-- A verdict beside a tree is that tree.
pub tree_alone : {A : Type 0} (P : Rel A) (t : Text) (a : A) → ((lifted : Lifted) → derives P lifted a t) → ((lifted : Lifted) (b : A) → derives P lifted b t → b ≡ a)
    → (v : Result A Fault) → Judges P t v → v ≡ Ok a
tree_alone {A = A} P t a each only (Ok b) j = ap (λ (c : A). Ok c) (only strict b j.derived)
tree_alone P t a each only (Err (Syntax k)) j = absurd (j.none t a refl (each lax))
tree_alone P t a each only (Err (Passes rule k)) j = absurd (j.none t a refl (each (all_but rule k)))
