-- Placing a pair of types: a clash is one for every list of pairs that has the earlier ones, and a pair more keeps what is known of them.
use Rattle.std.proofs.Common.{arith, ◌≡◌, ◌≢◌, ℕ, ◌+◌, ◌<◌, zero, suc, Bool, true, false, eqb, List, [], ◌∷◌, ◌++◌, Option, Some, None, refl, ap, sym, ◌∙◌, subst, length, inl, inr, ◌⊎◌, get_or}
use Rattle.std.specs.Prelude.{slice_set, is_some}
use Rattle.std.proofs.lemmas.Bool.{eqb-true, eqb-false}
use Rattle.std.proofs.lemmas.Option.{same_Some, none-some}
use Rattle.std.proofs.lemmas.List.{get_or-set_same, get_or-set_other, length-append, length-set}
use Rattle.idl_compat.specs.declared.pairs.TypePair.{TypePair}
use Rattle.idl_compat.specs.declared.placing.Pairing.{Pairing}
use Rattle.idl_compat.specs.Comparison.{IsPair, IsOneToOne}
use Rattle.idl_compat.specs.Asking.{Includes}
use Rattle.idl_compat.specs.Placing.{empties, IsPaired, IsAdded}

pub included : (m ps : List TypePair) → Includes m ps → (t u : ℕ) → IsPair ps t u → IsPair m t u
included m [] a t u h = absurd h
included m (p ∷ ps) a t u (inl h) = subst (λ v. IsPair m v u) (sym h.0) (subst (λ v. IsPair m p.old.0 v) (sym h.1) a.0)
included m (p ∷ ps) a t u (inr h) = included m ps a.1 t u h

pub pair_left : (ps qs : List TypePair) (t u : ℕ) → IsPair ps t u → IsPair (ps ++ qs) t u
pair_left [] qs t u h = absurd h
pair_left (p ∷ ps) qs t u (inl h) = inl h
pair_left (p ∷ ps) qs t u (inr h) = inr (pair_left ps qs t u h)

pub pair_right : (ps qs : List TypePair) (t u : ℕ) → IsPair qs t u → IsPair (ps ++ qs) t u
pair_right [] qs t u h = h
pair_right (p ∷ ps) qs t u h = inr (pair_right ps qs t u h)

pub pair_split : (ps qs : List TypePair) (t u : ℕ) → IsPair (ps ++ qs) t u → IsPair ps t u ⊎ IsPair qs t u
pair_split [] qs t u h = inr h
pair_split (p ∷ ps) qs t u (inl h) = inl (inl h)
pair_split (p ∷ ps) qs t u (inr h) = by (pair_split ps qs t u h)
  where
    by : IsPair ps t u ⊎ IsPair qs t u → IsPair (p ∷ ps) t u ⊎ IsPair qs t u
    by (inl a) = inl (inr a)
    by (inr b) = inr b

one_less : (f : List (Option ℕ)) (t u : ℕ) → t < length f → get_or f t None ≡ None → suc (empties (slice_set f t (Some u))) ≡ empties f
one_less [] t u l e = absurd (omega (arith, l))
one_less (None ∷ f) zero u l e = refl
one_less (Some v ∷ f) zero u l e = absurd (none-some v (sym e))
one_less (None ∷ f) (suc t) u l e = ap suc (one_less f t u (omega (arith, l)) e)
one_less (Some v ∷ f) (suc t) u l e = one_less f t u (omega (arith, l)) e

-- an old type that has another partner
pub clash_old : (s : Pairing) (t u v : ℕ) → IsPaired s → get_or s.forward t None ≡ Some v → (v ≡ u → ⊥)
    → (m : List TypePair) → IsOneToOne m → Includes m s.pairs → IsPair m t u → ⊥
clash_old s t u v k e differ m one all h = differ (one.new t v u (included m s.pairs all t v (k.of_new t v e)) h)

-- a new type that has another partner
pub clash_new : (s : Pairing) (t u : ℕ) → IsPaired s → get_or s.forward t None ≡ None → is_some (get_or s.backward u None) ≡ true
    → (m : List TypePair) → IsOneToOne m → Includes m s.pairs → IsPair m t u → ⊥
clash_new s t u k free taken m one all h = by (get_or s.backward u None) refl taken
  where
    by : (o : Option ℕ) → get_or s.backward u None ≡ o → is_some o ≡ true → ⊥
    by None e h' = cc
    by (Some v) e h' =
        let p : IsPair s.pairs v u = k.of_old v u e in
        let same : v ≡ t = one.old v t u (included m s.pairs all v u p) h in
        none-some u (sym free ∙ k.to_new t u (subst (λ x. IsPair s.pairs x u) same p))

-- one pair more
pub placed : (s : Pairing) (t u : ℕ) → IsPaired s → t < length s.forward → u < length s.backward → get_or s.forward t None ≡ None → get_or s.backward u None ≡ None
    → ((t < 12) ⊎ (u < 12) → t ≡ u)
    → IsPaired (record { pairs = s.pairs ++ record { old = record { 0 = t }; new = record { 0 = u } } ∷ []; forward = slice_set s.forward t (Some u); backward = slice_set s.backward u (Some t) })
placed s t u k l l' free free' own =
    record { to_new = to_new; to_old = to_old; of_new = of_new; of_old = of_old; basic = basic; room = room }
  where
    last : List TypePair
    last = record { old = record { 0 = t }; new = record { 0 = u } } ∷ []

    to_new : (x y : ℕ) → IsPair (s.pairs ++ record { old = record { 0 = t }; new = record { 0 = u } } ∷ []) x y → get_or (slice_set s.forward t (Some u)) x None ≡ Some y
    to_new x y h = by (pair_split s.pairs (record { old = record { 0 = t }; new = record { 0 = u } } ∷ []) x y h)
      where
        by : IsPair s.pairs x y ⊎ IsPair (record { old = record { 0 = t }; new = record { 0 = u } } ∷ []) x y → get_or (slice_set s.forward t (Some u)) x None ≡ Some y
        by (inl a) = get_or-set_other s.forward t x (Some u) None (λ e. none-some y (sym free ∙ ap (λ z. get_or s.forward z None) (sym e) ∙ k.to_new x y a)) ∙ k.to_new x y a
        by (inr (inl a)) = ap (λ z. get_or (slice_set s.forward t (Some u)) z None) a.0 ∙ get_or-set_same s.forward t (Some u) None l ∙ ap (λ z. Some z) (sym a.1)
        by (inr (inr a)) = absurd a

    to_old : (x y : ℕ) → IsPair (s.pairs ++ record { old = record { 0 = t }; new = record { 0 = u } } ∷ []) x y → get_or (slice_set s.backward u (Some t)) y None ≡ Some x
    to_old x y h = by (pair_split s.pairs (record { old = record { 0 = t }; new = record { 0 = u } } ∷ []) x y h)
      where
        by : IsPair s.pairs x y ⊎ IsPair (record { old = record { 0 = t }; new = record { 0 = u } } ∷ []) x y → get_or (slice_set s.backward u (Some t)) y None ≡ Some x
        by (inl a) = get_or-set_other s.backward u y (Some t) None (λ e. none-some x (sym free' ∙ ap (λ z. get_or s.backward z None) (sym e) ∙ k.to_old x y a)) ∙ k.to_old x y a
        by (inr (inl a)) = ap (λ z. get_or (slice_set s.backward u (Some t)) z None) a.1 ∙ get_or-set_same s.backward u (Some t) None l' ∙ ap (λ z. Some z) (sym a.0)
        by (inr (inr a)) = absurd a

    of_new : (x y : ℕ) → get_or (slice_set s.forward t (Some u)) x None ≡ Some y → IsPair (s.pairs ++ record { old = record { 0 = t }; new = record { 0 = u } } ∷ []) x y
    of_new x y e = by (eqb x t) refl
      where
        by : (c : Bool) → eqb x t ≡ c → IsPair (s.pairs ++ record { old = record { 0 = t }; new = record { 0 = u } } ∷ []) x y
        by true g =
            let is : x ≡ t = eqb-true x t g in
            let same : u ≡ y = same_Some u y (sym (get_or-set_same s.forward t (Some u) None l) ∙ ap (λ z. get_or (slice_set s.forward t (Some u)) z None) (sym is) ∙ e) in
            pair_right s.pairs (record { old = record { 0 = t }; new = record { 0 = u } } ∷ []) x y (inl (is, sym same))
        by false g =
            pair_left s.pairs (record { old = record { 0 = t }; new = record { 0 = u } } ∷ []) x y
            (k.of_new x y (sym (get_or-set_other s.forward t x (Some u) None (eqb-false x t g)) ∙ e))

    of_old : (x y : ℕ) → get_or (slice_set s.backward u (Some t)) y None ≡ Some x → IsPair (s.pairs ++ record { old = record { 0 = t }; new = record { 0 = u } } ∷ []) x y
    of_old x y e = by (eqb y u) refl
      where
        by : (c : Bool) → eqb y u ≡ c → IsPair (s.pairs ++ record { old = record { 0 = t }; new = record { 0 = u } } ∷ []) x y
        by true g =
            let is : y ≡ u = eqb-true y u g in
            let same : t ≡ x = same_Some t x (sym (get_or-set_same s.backward u (Some t) None l') ∙ ap (λ z. get_or (slice_set s.backward u (Some t)) z None) (sym is) ∙ e) in
            pair_right s.pairs (record { old = record { 0 = t }; new = record { 0 = u } } ∷ []) x y (inl (sym same, is))
        by false g =
            pair_left s.pairs (record { old = record { 0 = t }; new = record { 0 = u } } ∷ []) x y
            (k.of_old x y (sym (get_or-set_other s.backward u y (Some t) None (eqb-false y u g)) ∙ e))

    basic : (x y : ℕ) → IsPair (s.pairs ++ record { old = record { 0 = t }; new = record { 0 = u } } ∷ []) x y → (x < 12) ⊎ (y < 12) → x ≡ y
    basic x y h low = by (pair_split s.pairs (record { old = record { 0 = t }; new = record { 0 = u } } ∷ []) x y h)
      where
        moved : x ≡ t → y ≡ u → (x < 12) ⊎ (y < 12) → (t < 12) ⊎ (u < 12)
        moved e e' (inl a) = inl (subst (λ z. z < 12) e a)
        moved e e' (inr a) = inr (subst (λ z. z < 12) e' a)

        by : IsPair s.pairs x y ⊎ IsPair (record { old = record { 0 = t }; new = record { 0 = u } } ∷ []) x y → x ≡ y
        by (inl a) = k.basic x y a low
        by (inr (inl a)) = a.0 ∙ own (moved a.0 a.1 low) ∙ sym a.1
        by (inr (inr a)) = absurd a

    room : length (s.pairs ++ record { old = record { 0 = t }; new = record { 0 = u } } ∷ []) + empties (slice_set s.forward t (Some u)) ≡ length (slice_set s.forward t (Some u))
    room =
        let a : length (s.pairs ++ record { old = record { 0 = t }; new = record { 0 = u } } ∷ []) ≡ length s.pairs + 1 =
        length-append s.pairs (record { old = record { 0 = t }; new = record { 0 = u } } ∷ []) in
        let less : suc (empties (slice_set s.forward t (Some u))) ≡ empties s.forward = one_less s.forward t u l free in
        let c : length (slice_set s.forward t (Some u)) ≡ length s.forward = length-set s.forward t (Some u) in
        let d : length s.pairs + empties s.forward ≡ length s.forward = k.room in
        omega (arith, a, less, c, d)

is_absent : (o : Option ℕ) → is_some o ≡ false → o ≡ None
is_absent None e = refl
is_absent (Some v) e = cc

pub all_placed : (s : Pairing) (t u : ℕ) (ps : List TypePair) (f b : List (Option ℕ)) → IsPaired s → t < length s.forward → u < length s.backward
    → get_or s.forward t None ≡ None → is_some (get_or s.backward u None) ≡ false → ((t < 12) ⊎ (u < 12) → t ≡ u)
    → ps ≡ s.pairs ++ record { old = record { 0 = t }; new = record { 0 = u } } ∷ [] → f ≡ slice_set s.forward t (Some u) → b ≡ slice_set s.backward u (Some t)
    → IsAdded s (record { pairs = ps; forward = f; backward = b }) t u
all_placed s t u ps f b k l l' free free' own e e' e'' =
    let P : List TypePair = s.pairs ++ record { old = record { 0 = t }; new = record { 0 = u } } ∷ [] in
    let F : List (Option ℕ) = slice_set s.forward t (Some u) in
    let B : List (Option ℕ) = slice_set s.backward u (Some t) in
    let p : IsPaired (record { pairs = P; forward = F; backward = B }) = placed s t u k l l' free (is_absent (get_or s.backward u None) free') own in
    record {
      added = e;
      paired = subst (λ x. IsPaired (record { pairs = x; forward = f; backward = b })) (sym e) (subst (λ x. IsPaired (record { pairs = P; forward = x; backward = b })) (sym e')
          (subst (λ x. IsPaired (record { pairs = P; forward = F; backward = x })) (sym e'') p));
      as_many_old = ap length e' ∙ length-set s.forward t (Some u);
      as_many_new = ap length e'' ∙ length-set s.backward u (Some t);
    }
