-- Pairs that are wanted, placed one after the other; and conditions on pairs, met by placing what they ask for.
use Rattle.std.proofs.Common.{arith, ◌≡◌, ℕ, ◌+◌, ◌<◌, ◌≤◌, zero, suc, Bool, true, false, List, [], ◌∷◌, ◌++◌, Option, Some, None, refl, ap, sym, ◌∙◌, subst, length, take, take_all, append_assoc}
use Rattle.std.proofs.Common.{append-nil, inl, inr, ◌⊎◌}
use Rattle.std.specs.Prelude.{slice_get}
use Rattle.std.proofs.lemmas.Option.{same_Some}
use Rattle.idl_compat.specs.declared.pairs.TypePair.{TypePair}
use Rattle.idl_compat.specs.declared.placing.Pairing.{Pairing}
use Rattle.idl_compat.specs.declared.placing.Placing.{Placing}
use Rattle.idl_compat.specs.declared.placing.Placing.TheVariants as placing
use Rattle.idl_compat.specs.Comparison.{IsPair, IsOneToOne}
use Rattle.idl_compat.specs.Asking.{Includes, IsAskedBy, Asks}
use Rattle.idl_compat.specs.Placing.{IsPaired, IsAdded, IsPlacing}
use Rattle.idl_compat.specs.Matching.{IsPossible, HasMet, Meets}
use Rattle.idl_compat.proofs.Placed.{included, pair_left, pair_right, pair_split}

pub grown : (ps ps' w : List TypePair) → ((t u : ℕ) → IsPair ps t u → IsPair ps' t u) → Includes ps w → Includes ps' w
grown ps ps' [] f a = tt
grown ps ps' (p ∷ w) f a = (f p.old.0 p.new.0 a.0, grown ps ps' w f a.1)

pub itself : (ps : List TypePair) → Includes ps ps
itself [] = tt
itself (p ∷ ps) = (inl (refl, refl), grown ps (p ∷ ps) ps (λ t u h. inr h) (itself ps))

pub one_of : (m w : List TypePair) (i : ℕ) (p : TypePair) → Includes m w → slice_get w i ≡ Some p → IsPair m p.old.0 p.new.0
one_of m [] i p a e = cc
one_of m (q ∷ w) zero p a e = subst (λ z. IsPair m z.old.0 z.new.0) (same_Some q p e) a.0
one_of m (q ∷ w) (suc i) p a e = one_of m w i p a.1 e

first_of : (m w : List TypePair) (i : ℕ) → Includes m w → Includes m (take i w)
first_of m w zero a = tt
first_of m [] (suc i) a = tt
first_of m (q ∷ w) (suc i) a = (a.0, first_of m w i a.1)

one_more : (m w : List TypePair) (i : ℕ) (p : TypePair) → slice_get w i ≡ Some p → Includes m (take i w) → IsPair m p.old.0 p.new.0 → Includes m (take (suc i) w)
one_more m [] i p e a h = tt
one_more m (q ∷ w) zero p e a h = (subst (λ z. IsPair m z.old.0 z.new.0) (sym (same_Some q p e)) h, tt)
one_more m (q ∷ w) (suc i) p e a h = (a.0, one_more m w i p e a.1 h)

one_fewer : (m w : List TypePair) (i : ℕ) (p : TypePair) → slice_get w i ≡ Some p → Includes m (take (suc i) w) → Includes m (take i w) × IsPair m p.old.0 p.new.0
one_fewer m [] i p e a = cc
one_fewer m (q ∷ w) zero p e a = (tt, subst (λ z. IsPair m z.old.0 z.new.0) (same_Some q p e) a.0)
one_fewer m (q ∷ w) (suc i) p e a = let b = one_fewer m w i p e a.1 in ((a.0, b.0), b.1)

all_and : (m ps : List TypePair) (t u : ℕ) → Includes m ps → IsPair m t u → Includes m (ps ++ record { old = record { 0 = t }; new = record { 0 = u } } ∷ [])
all_and m [] t u a h = (h, tt)
all_and m (p ∷ ps) t u a h = (a.0, all_and m ps t u a.1 h)

pub start : (s : Pairing) (w : List TypePair) → IsPaired s → HasMet (λ m. Includes m (take 0 w)) s s
start s w k = record { paired = k; as_many_old = refl; as_many_new = refl; added = ([], sym (append-nil s.pairs)); met = tt; forced = λ m a c. a }

-- pairs that are added to pairs have these
pub added_includes : (s s' : Pairing) → ((w : List TypePair) × (s'.pairs ≡ s.pairs ++ w)) → Includes s'.pairs s.pairs
added_includes s s' (w, e) = grown s.pairs s'.pairs s.pairs (λ t u h. subst (λ x. IsPair x t u) (sym e) (pair_left s.pairs w t u h)) (itself s.pairs)

module _ (s r : Pairing) (w : List TypePair) (i : ℕ) (p : TypePair) (is : slice_get w i ≡ Some p) (k : HasMet (λ m. Includes m (take i w)) s r) where
  already : IsPair r.pairs p.old.0 p.new.0 → HasMet (λ m. Includes m (take (suc i) w)) s r
  already a =
      record {
        paired = k.paired;
        as_many_old = k.as_many_old;
        as_many_new = k.as_many_new;
        added = k.added;
        met = one_more r.pairs w i p is k.met a;
        forced = λ m all h. k.forced m all (one_fewer m w i p is h).0;
      }

  added : (r' : Pairing) → IsAdded r r' p.old.0 p.new.0 → HasMet (λ m. Includes m (take (suc i) w)) s r'
  added r' a =
      let last : List TypePair = record { old = record { 0 = p.old.0 }; new = record { 0 = p.new.0 } } ∷ [] in
      let more : (t u : ℕ) → IsPair r.pairs t u → IsPair r'.pairs t u = λ t u h. subst (λ x. IsPair x t u) (sym a.added) (pair_left r.pairs last t u h) in
      record {
        paired = a.paired;
        as_many_old = a.as_many_old ∙ k.as_many_old;
        as_many_new = a.as_many_new ∙ k.as_many_new;
        added = (k.added.0 ++ last, a.added ∙ ap (λ x. x ++ last) k.added.1 ∙ append_assoc s.pairs k.added.0 last);
        met = one_more r'.pairs w i p is (grown r.pairs r'.pairs (take i w) more k.met)
            (subst (λ x. IsPair x p.old.0 p.new.0) (sym a.added) (pair_right r.pairs last p.old.0 p.new.0 (inl (refl, refl))));
        forced = λ m all h. let d = one_fewer m w i p is h in subst (λ x. Includes m x) (sym a.added) (all_and m r.pairs p.old.0 p.new.0 (k.forced m all d.0) d.1);
      }

  next : suc i ≡ i + 1
  next = omega arith

  pub turn : (r' : Pairing) (x : Placing) → IsPlacing r r' p.old.0 p.new.0 x → (x ≡ placing.Clash → ⊥) → HasMet (λ m. Includes m (take (i + 1) w)) s r'
  turn r' placing.Clash a h = absurd (h refl)
  turn r' placing.Already a h = subst (λ n. HasMet (λ m. Includes m (take n w)) s r') next (subst (λ x. HasMet (λ m. Includes m (take (suc i) w)) s x) (sym a.1) (already a.0))
  turn r' placing.Added a h = subst (λ n. HasMet (λ m. Includes m (take n w)) s r') next (added r' a)

  pub stop : (r' : Pairing) (x : Placing) → IsPlacing r r' p.old.0 p.new.0 x → x ≡ placing.Clash
      → (m : List TypePair) → IsPossible s m → Includes m s.pairs → Includes m w → ⊥
  stop r' placing.Already a h m o all h' = cc
  stop r' placing.Added a h m o all h' = cc
  stop r' placing.Clash a h m o all h' =
      let q : IsPair m p.old.0 p.new.0 = one_of m w i p h' is in
      let l = o.known p.old.0 p.new.0 q in
      a.1 m o.one_to_one (k.forced m all (first_of m w i h')) q (subst (λ n. p.old.0 < n) (sym k.as_many_old) l.0) (subst (λ n. p.new.0 < n) (sym k.as_many_new) l.1)

pub over : (s r : Pairing) (w : List TypePair) (i : ℕ) → length w ≤ i → HasMet (λ m. Includes m (take i w)) s r → HasMet (λ m. Includes m w) s r
over s r w i l k = subst (λ x. HasMet (λ m. Includes m x) s r) (take_all i w l) k

-- ## Conditions that ask for pairs

-- a condition that no pairs meet
pub never_met : (P : List TypePair → Type 0) (before after : List TypePair) → Asks P before after false → (s r : Pairing) → Meets P s r false
never_met P before after a s r = λ m o all p. a m p

-- a condition whose pairs are all placed, or clash
pub asked_met : (P : List TypePair → Type 0) (w : List TypePair) → Asks P [] w true → (s r : Pairing) (ok : Bool) → Meets (λ m. Includes m w) s r ok → Meets P s r ok
asked_met P w (v, e, a) s r true k =
    record {
      paired = k.paired;
      as_many_old = k.as_many_old;
      as_many_new = k.as_many_new;
      added = k.added;
      met = a.enough r.pairs (subst (λ x. Includes r.pairs x) e k.met);
      forced = λ m all p. k.forced m all (subst (λ x. Includes m x) (sym e) (a.needed m p));
    }
asked_met P w (v, e, a) s r false k = λ m o all p. k m o all (subst (λ x. Includes m x) (sym e) (a.needed m p))

pub met_true : (P : List TypePair → Type 0) (s r : Pairing) (ok : Bool) → Meets P s r ok → ok ≡ true → HasMet P s r
met_true P s r true k e = k
met_true P s r false k e = cc

pub met_false : (P : List TypePair → Type 0) (s r : Pairing) (ok : Bool) → Meets P s r ok → ok ≡ false → Meets P s r false
met_false P s r true k e = cc
met_false P s r false k e = k
