-- A pair more on a trail, or a pair that clashes with those that are there.
use Rattle.std.proofs.Common.{arith, ◌≡◌, ℕ, ◌+◌, ◌<◌, ◌≤◌, zero, suc, Bool, true, false, eqb, List, [], ◌∷◌, ◌++◌, Option, Some, None, refl, ap, sym, ◌∙◌, subst, length, inl, inr, ◌⊎◌}
use Rattle.std.specs.Prelude.{slice_get}
use Rattle.std.proofs.lemmas.Bool.{eqb-true, eqb-false}
use Rattle.std.proofs.lemmas.List.{length-append}
use Rattle.std.proofs.lemmas.Option.{same_Some, slice_get_within}
use Rattle.nd_types.specs.declared.interface.Interface.{Interface}
use Rattle.idl_compat.specs.declared.pairs.TypePair.{TypePair}
use Rattle.idl_compat.specs.declared.placing.Pairing.{Pairing}
use Rattle.idl_compat.specs.declared.placing.Placing.TheVariants as placing
use Rattle.idl_compat.specs.Comparison.{IsPair, IsOneToOne}
use Rattle.idl_compat.specs.Asking.{Includes}
use Rattle.idl_compat.specs.Placing.{IsPlacing, IsEmptyPairing}
use Rattle.idl_compat.specs.Matching.{IsMatched}
use Rattle.idl_compat.proofs.Carrying.{both_there}
use Rattle.idl_compat.proofs.Expanding.{at_front, or_last, PairAt, pair_at}
use Rattle.idl_compat.proofs.Growing.{one_to_one}
use Rattle.idl_compat.proofs.Matched.{grown, itself}
use Rattle.idl_compat.proofs.Operating.{nothing_matched}
use Rattle.idl_compat.proofs.Placed.{pair_left, pair_right, pair_split}
use Rattle.idl_compat_place.specs.declared.origins.Origin.{Origin}
use Rattle.idl_compat_place.specs.declared.origins.Origin.TheVariants as origin
use Rattle.idl_compat_place.specs.declared.trail.Trail.{Trail}
use Rattle.idl_compat_place.specs.Differences.{AreUnlike, AreClashing, IsPartBefore}
use Rattle.idl_compat_place.specs.Trails.{IsOrigin, IsTrail, AreOtherBasic, AreApart, IsOther, IsRefuted, IsEnd, HasWalked, IsWalkedTo}

-- ## Lists with one item more

pub last_or_before : {X : Type 0} (xs : List X) (x y : X) (i : ℕ) → slice_get (xs ++ x ∷ []) i ≡ Some y
    → ((i < length xs) × (slice_get xs i ≡ Some y)) ⊎ ((i ≡ length xs) × (x ≡ y))
last_or_before [] x y zero e = inr (refl, same_Some x y e)
last_or_before [] x y (suc i) e = cc
last_or_before (z ∷ xs) x y zero e = inl (omega arith, e)
last_or_before (z ∷ xs) x y (suc i) e = by (last_or_before xs x y i e)
  where
    by : ((i < length xs) × (slice_get xs i ≡ Some y)) ⊎ ((i ≡ length xs) × (x ≡ y))
        → ((suc i < suc (length xs)) × (slice_get xs i ≡ Some y)) ⊎ ((suc i ≡ suc (length xs)) × (x ≡ y))
    by (inl (l, is)) = inl (omega (arith, l), is)
    by (inr (e, is)) = inr (ap suc e, is)

pub below_or_from : (a b : ℕ) → (a < b) ⊎ (b ≤ a)
below_or_from a zero = inr (omega arith)
below_or_from zero (suc b) = inl (omega arith)
below_or_from (suc a) (suc b) = by (below_or_from a b)
  where
    by : (a < b) ⊎ (b ≤ a) → (suc a < suc b) ⊎ (suc b ≤ suc a)
    by (inl l) = inl (omega (arith, l))
    by (inr l) = inr (omega (arith, l))

-- ## Origins

-- origins stay as they are when pairs are added
origin_grows : (old new : Interface) (k n base : ℕ) (pairs w : List TypePair) (before : ℕ) (p : TypePair) (g : Origin) → before ≤ length pairs
    → IsOrigin old new k n base pairs before p g → IsOrigin old new k n base (pairs ++ w) before p g
origin_grows old new k n base pairs w before p (origin.Part j i) l h = h
origin_grows old new k n base pairs w before p (origin.Step from step) l h =
    let less : from < length pairs = (let a = h.is_earlier in omega (arith, a, l)) in
    record {
      pair = h.pair;
      is_earlier = h.is_earlier;
      own = h.own;
      is_pair = at_front pairs w from less ∙ h.is_pair;
      is_old = h.is_old;
      is_new = h.is_new;
    }

-- a part that was walked, or the one that is, is before the next
abbrev pub IsNext : ℕ → ℕ → ℕ → ℕ → Type 0
IsNext k n k' n' = (j i : ℕ) → IsPartBefore j i k n ⊎ ((j ≡ k) × (i ≡ n)) → IsPartBefore j i k' n'

origin_next : (old new : Interface) (k n base k' n' base' : ℕ) → IsNext k n k' n' → (pairs : List TypePair) (before : ℕ) → before < base'
    → (p : TypePair) (g : Origin) → IsOrigin old new k n base pairs before p g → IsOrigin old new k' n' base' pairs before p g
origin_next old new k n base k' n' base' up pairs before l p (origin.Part j i) h =
    record {
      earlier = λ l'. up j i (by (below_or_from before base));
      own = λ l'. absurd (omega (arith, l, l'));
      is_old = h.is_old;
      is_new = h.is_new;
      no_handles = h.no_handles;
    }
  where
    by : (before < base) ⊎ (base ≤ before) → IsPartBefore j i k n ⊎ ((j ≡ k) × (i ≡ n))
    by (inl less) = inl (h.earlier less)
    by (inr more) = inr (h.own more)
origin_next old new k n base k' n' base' up pairs before l p (origin.Step from step) h =
    record { pair = h.pair; is_earlier = h.is_earlier; own = λ l'. absurd (omega (arith, l, l')); is_pair = h.is_pair; is_old = h.is_old; is_new = h.is_new }

-- a trail of the next part
pub trail_next : (old new : Interface) (k n base k' n' : ℕ) (s : Trail) → IsNext k n k' n' → IsTrail old new k n base s
    → IsTrail old new k' n' (length s.pairing.pairs) s
trail_next old new k n base k' n' s up a =
    record {
      paired = a.paired;
      as_many_old = a.as_many_old;
      as_many_new = a.as_many_new;
      as_many = a.as_many;
      each = λ at p g e f. origin_next old new k n base k' n' (length s.pairing.pairs) up s.pairing.pairs at (slice_get_within s.pairing.pairs at p e) p g (a.each at p g e f);
    }

-- no pairs
pub began : (old new : Interface) (s : Pairing) → IsEmptyPairing old new s → IsWalkedTo old new 0 0 (record { pairing = s; origins = [] })
began old new s e =
    let m : IsMatched old new 0 s = nothing_matched old new s e in
    record {
      trail = record {
        paired = m.paired;
        as_many_old = m.as_many_old;
        as_many_new = m.as_many_new;
        as_many = sym (ap length e.pairs);
        each = λ at p g is is'. absurd (none at p (subst (λ x. slice_get x at ≡ Some p) e.pairs is));
      };
      alike = m.alike;
      parts = λ i l. absurd (omega (arith, l));
    }
  where
    none : (at : ℕ) (p : TypePair) → slice_get {X = TypePair} [] at ≡ Some p → ⊥
    none at p is = cc

-- ## Clashes

equal_or : (a b : ℕ) (c : Bool) → eqb a b ≡ c → ((a ≡ b → ⊥) → ⊥) → a ≡ b
equal_or a b true e f = eqb-true a b e
equal_or a b false e f = absurd (f (eqb-false a b e))

-- no pair up to here shares one type alone
abbrev pub AreNoOther : List TypePair → TypePair → ℕ → Type 0
AreNoOther pairs p n = (i : ℕ) (r : TypePair) → i < n → slice_get pairs i ≡ Some r → AreClashing p r → ⊥

pub no_other_next : (pairs : List TypePair) (p q : TypePair) (n : ℕ) → slice_get pairs n ≡ Some q → (AreClashing p q → ⊥) → AreNoOther pairs p n → AreNoOther pairs p (n + 1)
no_other_next pairs p q n is f a i r l e c = by (or_last i n (omega (arith, l)))
  where
    by : (i < n) ⊎ (i ≡ n) → ⊥
    by (inl l') = a i r l' e c
    by (inr same) = f (subst (AreClashing p) (same_Some r q (sym e ∙ ap (λ x. slice_get pairs x) same ∙ is)) c)

pub no_other : (pairs : List TypePair) (p : TypePair) (n : ℕ) → length pairs ≤ n → AreNoOther pairs p n → AreApart pairs p
no_other pairs p n l a t u h = (new, old)
  where
    at : PairAt pairs t u
    at = pair_at pairs t u h

    none : AreClashing p at.pair → ⊥
    none c = let b : at.at < length pairs = slice_get_within pairs at.at at.pair at.is in a at.at at.pair (omega (arith, b, l)) at.is c

    new : t ≡ p.old.0 → u ≡ p.new.0
    new e = equal_or u p.new.0 (eqb u p.new.0) refl (λ f. none (inl (sym at.is_old ∙ e, λ g. f (at.is_new ∙ g))))

    old : u ≡ p.new.0 → t ≡ p.old.0
    old e = equal_or t p.old.0 (eqb t p.old.0) refl (λ f. none (inr (sym at.is_new ∙ e, λ g. f (at.is_old ∙ g))))

module _ (old new : Interface) (k n base : ℕ) (s : Trail) (a : IsTrail old new k n base s) (p : TypePair) where
  abbrev last : List TypePair
  last = p ∷ []

  module _ (none : AreApart s.pairing.pairs p) (m : List TypePair) (one : IsOneToOne m) (pair : IsPair m p.old.0 p.new.0) where
    here : (t u : ℕ) → (t ≡ p.old.0) × (u ≡ p.new.0) → IsPair m t u
    here t u e = subst (λ x. IsPair m x u) (sym e.0) (subst (λ y. IsPair m p.old.0 y) (sym e.1) pair)

    split : (t u : ℕ) → IsPair (s.pairing.pairs ++ p ∷ []) t u → IsPair s.pairing.pairs t u ⊎ ((t ≡ p.old.0) × (u ≡ p.new.0))
    split t u h = by (pair_split s.pairing.pairs (p ∷ []) t u h)
      where
        by : IsPair s.pairing.pairs t u ⊎ IsPair (p ∷ []) t u → IsPair s.pairing.pairs t u ⊎ ((t ≡ p.old.0) × (u ≡ p.new.0))
        by (inl x) = inl x
        by (inr (inl e)) = inr e
        by (inr (inr x)) = absurd x

    new_by : (t u v : ℕ) → IsPair s.pairing.pairs t u ⊎ ((t ≡ p.old.0) × (u ≡ p.new.0)) → IsPair s.pairing.pairs t v ⊎ ((t ≡ p.old.0) × (v ≡ p.new.0)) → u ≡ v
    new_by t u v (inl x) (inl y) = (one_to_one s.pairing a.paired).new t u v x y
    new_by t u v (inl x) (inr e) = (none t u x).0 e.0 ∙ sym e.1
    new_by t u v (inr e) (inl y) = e.1 ∙ sym ((none t v y).0 e.0)
    new_by t u v (inr e) (inr f) = e.1 ∙ sym f.1

    old_by : (t u v : ℕ) → IsPair s.pairing.pairs t v ⊎ ((t ≡ p.old.0) × (v ≡ p.new.0)) → IsPair s.pairing.pairs u v ⊎ ((u ≡ p.old.0) × (v ≡ p.new.0)) → t ≡ u
    old_by t u v (inl x) (inl y) = (one_to_one s.pairing a.paired).old t u v x y
    old_by t u v (inl x) (inr e) = (none t v x).1 e.1 ∙ sym e.0
    old_by t u v (inr e) (inl y) = e.0 ∙ sym ((none u v y).1 e.1)
    old_by t u v (inr e) (inr f) = e.0 ∙ sym f.0

    basic_by : (t u : ℕ) → IsPair s.pairing.pairs t u ⊎ ((t ≡ p.old.0) × (u ≡ p.new.0)) → (t < 12) ⊎ (u < 12) → t ≡ u
    basic_by t u (inl x) low = (one_to_one s.pairing a.paired).basic t u x low
    basic_by t u (inr e) low = one.basic t u (here t u e) low

    with_last : IsOneToOne (s.pairing.pairs ++ p ∷ [])
    with_last =
        record {
          new = λ t u v x y. new_by t u v (split t u x) (split t v y);
          old = λ t u v x y. old_by t u v (split t v x) (split u v y);
          basic = λ t u x low. basic_by t u (split t u x) low;
        }

    includes : Includes (s.pairing.pairs ++ p ∷ []) s.pairing.pairs
    includes = grown s.pairing.pairs (s.pairing.pairs ++ p ∷ []) s.pairing.pairs (λ t u q. pair_left s.pairing.pairs (p ∷ []) t u q) (itself s.pairing.pairs)

    has_last : IsPair (s.pairing.pairs ++ p ∷ []) p.old.0 p.new.0
    has_last = pair_right s.pairing.pairs (p ∷ []) p.old.0 p.new.0 (inl (refl, refl))

  -- a pair that cannot be placed although none of its types has another partner differs by itself
  unlike : (x : Pairing) → IsPlacing s.pairing x p.old.0 p.new.0 placing.Clash → AreApart s.pairing.pairs p → AreUnlike old new p
  unlike x h none m one pair alike =
      let (d, e) = both_there (IsPair m) alike in
      let few : p.old.0 < length s.pairing.forward = subst (λ z. p.old.0 < z) (sym a.as_many_old) (slice_get_within old.types p.old.0 d.0 d.1) in
      let few' : p.new.0 < length s.pairing.backward = subst (λ z. p.new.0 < z) (sym a.as_many_new) (slice_get_within new.types p.new.0 e.0 e.1) in
      h.1 (s.pairing.pairs ++ p ∷ []) (with_last none m one pair) (includes none m one pair) (has_last none m one pair) few few'

  -- so does one of which one type has no partner but itself
  basic_unlike : AreOtherBasic p → AreUnlike old new p
  basic_unlike b m one pair alike = b.1 (one.basic p.old.0 p.new.0 pair b.0)

  refuted : (x : Pairing) → IsPlacing s.pairing x p.old.0 p.new.0 placing.Clash → (o : Option ℕ) → IsOther s.pairing.pairs p o → IsRefuted old new s.pairing.pairs p o
  refuted x h None (inl b) = basic_unlike b
  refuted x h None (inr c) = unlike x h c
  refuted x h (Some at) c = c

  module _ (g : Origin) (o : IsOrigin old new k n base s.pairing.pairs (length s.pairing.pairs) p g) where
    same_trail : (x : Pairing) → x ≡ s.pairing → IsTrail old new k n base (record { pairing = x; origins = s.origins })
    same_trail x e = subst (λ y. IsTrail old new k n base (record { pairing = y; origins = s.origins })) (sym e) a

    pub clashed : (x : Pairing) (r : Option ℕ) → base ≤ length s.pairing.pairs → IsPlacing s.pairing x p.old.0 p.new.0 placing.Clash → IsOther x.pairs p r
        → IsEnd old new k n base (record { pairing = x; origins = s.origins }) (record { pair = p; origin = g; other = r })
    clashed x r l h c =
        record {
          trail = same_trail x h.0;
          before = length s.pairing.pairs;
          is_own = l;
          few = (let e : length x.pairs ≡ length s.pairing.pairs = ap (λ y. length y.pairs) h.0 in omega (arith, e));
          origin = subst (λ y. IsOrigin old new k n base y.pairs (length s.pairing.pairs) p g) (sym h.0) o;
          refuted = subst (λ y. IsRefuted old new y.pairs p r) (sym h.0) (refuted x h r (subst (λ y. IsOther y.pairs p r) h.0 c));
        }

    each_more : (at : ℕ) (q : TypePair) (f : Origin) → slice_get (s.pairing.pairs ++ p ∷ []) at ≡ Some q → slice_get (s.origins ++ g ∷ []) at ≡ Some f
        → IsOrigin old new k n base (s.pairing.pairs ++ p ∷ []) at q f
    each_more at q f e e' = by (last_or_before s.pairing.pairs p q at e) (last_or_before s.origins g f at e')
      where
        by : ((at < length s.pairing.pairs) × (slice_get s.pairing.pairs at ≡ Some q)) ⊎ ((at ≡ length s.pairing.pairs) × (p ≡ q))
            → ((at < length s.origins) × (slice_get s.origins at ≡ Some f)) ⊎ ((at ≡ length s.origins) × (g ≡ f)) → IsOrigin old new k n base (s.pairing.pairs ++ p ∷ []) at q f
        by (inl (l, is)) (inl (l', is')) = origin_grows old new k n base s.pairing.pairs (p ∷ []) at q f (omega (arith, l)) (a.each at q f is is')
        by (inl (l, is)) (inr (w, is')) = let m = a.as_many in absurd (omega (arith, l, w, m))
        by (inr (w, is)) (inl (l', is')) = let m = a.as_many in absurd (omega (arith, l', w, m))
        by (inr (w, is)) (inr (w', is')) =
            subst (λ y. IsOrigin old new k n base (s.pairing.pairs ++ p ∷ []) y q f) (sym w)
            (subst (λ y. IsOrigin old new k n base (s.pairing.pairs ++ p ∷ []) (length s.pairing.pairs) y f) is
            (subst (λ y. IsOrigin old new k n base (s.pairing.pairs ++ p ∷ []) (length s.pairing.pairs) p y) is'
            (origin_grows old new k n base s.pairing.pairs (p ∷ []) (length s.pairing.pairs) p g (omega arith) o)))

    pub added : (x : Pairing) (gs : List Origin) → IsPlacing s.pairing x p.old.0 p.new.0 placing.Added → gs ≡ s.origins ++ g ∷ []
        → HasWalked old new k n base (λ m. IsPair m p.old.0 p.new.0) s (record { pairing = x; origins = gs })
    added x gs h e =
        record {
          trail = record {
            paired = h.paired;
            as_many_old = h.as_many_old ∙ a.as_many_old;
            as_many_new = h.as_many_new ∙ a.as_many_new;
            as_many = (
                let b : length gs ≡ length s.origins + 1 = ap length e ∙ length-append s.origins (g ∷ []) in
                let c : length x.pairs ≡ length s.pairing.pairs + 1 = ap length h.added ∙ length-append s.pairing.pairs (p ∷ []) in
                let d = a.as_many in
                omega (arith, b, c, d)
                );
            each = λ at q f e1 e2. subst (λ y. IsOrigin old new k n base y at q f) (sym h.added)
                (each_more at q f (subst (λ y. slice_get y at ≡ Some q) h.added e1) (subst (λ y. slice_get y at ≡ Some f) e e2));
          };
          added = (p ∷ [], h.added);
          met = subst (λ y. IsPair y p.old.0 p.new.0) (sym h.added) (pair_right s.pairing.pairs (p ∷ []) p.old.0 p.new.0 (inl (refl, refl)));
        }
