-- What contains what.
use Rattle.std.proofs.Common.{◌≡◌, ℕ, suc, zero, ◌≤◌, Bool, true, false, not, eqb, ◌&&◌, ◌||◌, List, [], length, refl, sym, ◌∙◌, subst, inl, inr, arith}
use Rattle.std.specs.List.{list_all, list_any}
use Rattle.std.proofs.lemmas.Bool.{false≢true, eqb-true, or_left, or_right, or_cases}
use Rattle.std.proofs.lemmas.List.{get_or_past}
use Rattle.idl_cycles.specs.Graph.{parts_at, contains_within}
use Rattle.idl_cycles.specs.GraphCycles.{reaches_within}
use Rattle.idl_cycles.proofs.GraphTests.{is_not, never_true, any_weaker, any_of_all}
use Rattle.nd_lemmas.proofs.Booleans.{first_true as first_of, second_true as second_of}

-- nothing is in what is no node
pub no_parts : (graph : List (List ℕ)) (node : ℕ) → length graph ≤ node → parts_at graph node ≡ []
no_parts graph node h = get_or_past graph node [] h

pub contains_more : (m n : ℕ) (graph : List (List ℕ)) (outer inner : ℕ) → m ≤ n → contains_within m graph outer inner ≡ true → contains_within n graph outer inner ≡ true
contains_more zero n graph outer inner h e = absurd (false≢true e)
contains_more (suc m) zero graph outer inner h e = absurd (omega arith)
contains_more (suc m) (suc n) graph outer inner h e =
    any_weaker (λ p. eqb p inner || contains_within m graph p inner) (λ p. eqb p inner || contains_within n graph p inner)
    (λ p w. elim (or_cases (eqb p inner) (contains_within m graph p inner) w) [
      | inl i ↦ or_left (eqb p inner) (contains_within n graph p inner) i
      | inr c ↦ or_right (eqb p inner) (contains_within n graph p inner) (contains_more m n graph p inner (omega arith) c)
    ])
    (parts_at graph outer) e

pub part_of : (n : ℕ) (graph : List (List ℕ)) (by part : ℕ) → list_any (λ p. eqb p part) (parts_at graph by) ≡ true → contains_within (suc n) graph by part ≡ true
part_of n graph by part e =
    any_weaker (λ p. eqb p part) (λ p. eqb p part || contains_within n graph p part) (λ p i. or_left (eqb p part) (contains_within n graph p part) i) (parts_at graph by) e

-- one step further at the end
pub one_further : (n : ℕ) (graph : List (List ℕ)) (outer by part : ℕ) → contains_within n graph outer by ≡ true → list_any (λ p. eqb p part) (parts_at graph by) ≡ true
    → contains_within (suc n) graph outer part ≡ true
one_further zero graph outer by part c e = absurd (false≢true c)
one_further (suc n) graph outer by part c e =
    any_weaker (λ p. eqb p by || contains_within n graph p by) (λ p. eqb p part || contains_within (suc n) graph p part)
    (λ p w. or_right (eqb p part) (contains_within (suc n) graph p part) (elim (or_cases (eqb p by) (contains_within n graph p by) w) [
      | inl i ↦ let P : ℕ → Type 0 = λ x. contains_within (suc n) graph x part ≡ true in
          subst P (sym (eqb-true p by i)) (part_of n graph by part e)
      | inr d ↦ one_further n graph p by part d e
    ]))
    (parts_at graph outer) c

-- from what is reached to its part
pub part_of_reached : (n : ℕ) (graph : List (List ℕ)) (from by part : ℕ) → reaches_within n graph from by ≡ true → list_any (λ p. eqb p part) (parts_at graph by) ≡ true
    → contains_within (suc n) graph from part ≡ true
part_of_reached n graph from by part r e =
    let P : ℕ → Type 0 = λ x. contains_within (suc n) graph x part ≡ true in
    elim (or_cases (eqb from by) (contains_within n graph from by) r)
    [ inl i ↦ subst P (sym (eqb-true from by i)) (part_of n graph by part e) | inr c ↦ one_further n graph from by part c e ]

-- from nodes whose parts are among them, only such are reached
pub stays_among : (f : ℕ → Bool) (graph : List (List ℕ)) → ((node : ℕ) → f node ≡ true → list_all f (parts_at graph node) ≡ true) → (n outer inner : ℕ)
    → f outer ≡ true → contains_within n graph outer inner ≡ true → f inner ≡ true
stays_among f graph closed zero outer inner h c = absurd (false≢true c)
stays_among f graph closed (suc n) outer inner h c =
    let P : ℕ → Type 0 = λ x. f x ≡ true in
    let w = any_of_all f (λ p. eqb p inner || contains_within n graph p inner) (parts_at graph outer) (closed outer h) c in
    elim (or_cases (eqb w.0 inner) (contains_within n graph w.0 inner) w.2)
    [ inl i ↦ subst P (eqb-true w.0 inner i) w.1 | inr d ↦ stays_among f graph closed n w.0 inner w.1 d ]

-- what is not among them, and whose parts are, does not contain itself
pub stands_apart : (f : ℕ → Bool) (graph : List (List ℕ)) → ((node : ℕ) → f node ≡ true → list_all f (parts_at graph node) ≡ true) → (n node : ℕ)
    → f node ≡ false → list_all f (parts_at graph node) ≡ true → contains_within n graph node node ≡ false
stands_apart f graph closed zero node h a = refl
stands_apart f graph closed (suc n) node h a =
    never_true (contains_within (suc n) graph node node) (λ c.
    let P : ℕ → Type 0 = λ x. f x ≡ true in
    let w = any_of_all f (λ p. eqb p node || contains_within n graph p node) (parts_at graph node) a c in
    let e : f node ≡ true = elim (or_cases (eqb w.0 node) (contains_within n graph w.0 node) w.2)
    [ inl i ↦ subst P (eqb-true w.0 node i) w.1 | inr d ↦ stays_among f graph closed n w.0 node w.1 d ] in
    false≢true (sym h ∙ e))

-- from nodes whose parts are among them and are not the goal, the goal is not reached
pub never_comes : (f : ℕ → Bool) (graph : List (List ℕ)) (goal : ℕ) → ((node : ℕ) → f node ≡ true → list_all (λ p. not (eqb p goal) && f p) (parts_at graph node) ≡ true)
    → (n node : ℕ) → f node ≡ true → contains_within n graph node goal ≡ true → ⊥
never_comes f graph goal closed zero node h c = false≢true c
never_comes f graph goal closed (suc n) node h c =
    let w = any_of_all (λ p. not (eqb p goal) && f p) (λ p. eqb p goal || contains_within n graph p goal) (parts_at graph node) (closed node h) c in
    elim (or_cases (eqb w.0 goal) (contains_within n graph w.0 goal) w.2) [
      | inl i ↦ is_not (eqb w.0 goal) (first_of (not (eqb w.0 goal)) (f w.0) w.1) i
      | inr d ↦ never_comes f graph goal closed n w.0 (second_of (not (eqb w.0 goal)) (f w.0) w.1) d
    ]
