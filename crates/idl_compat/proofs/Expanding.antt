-- The types of all pairs, made alike one pair after the other.
use Rattle.std.proofs.Common.{arith, ◌≡◌, ℕ, ◌+◌, ◌<◌, ◌≤◌, zero, suc, Bool, true, false, List, [], ◌∷◌, ◌++◌, Option, Some, None, refl, ap, sym, ◌∙◌, subst, length, inl, inr, ◌⊎◌, append_assoc}
use Rattle.std.proofs.Common.{append-nil}
use Rattle.std.specs.Prelude.{slice_get}
use Rattle.std.proofs.lemmas.Option.{same_Some, slice_get_within, none-some}
use Rattle.nd_types.specs.declared.types.TypeDef.{TypeDef}
use Rattle.nd_types.specs.Table.{Table, type_at}
use Rattle.idl_compat.specs.declared.pairs.TypePair.{TypePair}
use Rattle.idl_compat.specs.declared.placing.Pairing.{Pairing}
use Rattle.idl_compat.specs.Comparison.{IsPair, AlikeTypes, AllAlike}
use Rattle.idl_compat.specs.Asking.{Includes, Asks}
use Rattle.idl_compat.specs.Placing.{IsPaired, empties}
use Rattle.idl_compat.specs.Matching.{IsPossible, HasMet, Meets, AreExpanded}
use Rattle.idl_compat.proofs.Placed.{included, pair_left}
use Rattle.idl_compat.proofs.Matched.{grown, itself, one_of, added_includes, never_met, asked_met}
use Rattle.idl_compat.proofs.Growing.{types_grow}
use Rattle.idl_compat.proofs.Carrying.{both_there}

-- ## One pair

pub no_old : (R : ℕ → ℕ → Type 0) (d e : Option TypeDef) → d ≡ None → AlikeTypes R d e → ⊥
no_old R d e is a = let (x, y) = both_there R a in none-some x.0 (sym is ∙ x.1)

pub no_new : (R : ℕ → ℕ → Type 0) (d e : Option TypeDef) → e ≡ None → AlikeTypes R d e → ⊥
no_new R d e is a = let (x, y) = both_there R a in none-some y.0 (sym is ∙ y.1)

module _ (old new : Table) (t u : ℕ) (d e : TypeDef) (is_old : type_at old t ≡ Some d) (is_new : type_at new u ≡ Some e) where
  moved : (m : List TypePair) → AlikeTypes (IsPair m) (type_at old t) (type_at new u) → AlikeTypes (IsPair m) (Some d) (Some e)
  moved m a = subst (λ y. AlikeTypes (IsPair m) (Some d) y) is_new (subst (λ x. AlikeTypes (IsPair m) x (type_at new u)) is_old a)

  back : (m : List TypePair) → AlikeTypes (IsPair m) (Some d) (Some e) → AlikeTypes (IsPair m) (type_at old t) (type_at new u)
  back m a = subst (λ y. AlikeTypes (IsPair m) (type_at old t) y) (sym is_new) (subst (λ x. AlikeTypes (IsPair m) x (Some e)) (sym is_old) a)

  pub pair_refused : (after : List TypePair) → Asks (λ m. AlikeTypes (IsPair m) (Some d) (Some e)) [] after false → (s : Pairing) (m : List TypePair) → IsPossible s m
      → Includes m s.pairs → AlikeTypes (IsPair m) (type_at old t) (type_at new u) → ⊥
  pair_refused after a s m o all p = a m (moved m p)

  pub pair_met : (w : List TypePair) → Asks (λ m. AlikeTypes (IsPair m) (Some d) (Some e)) [] w true → (s r : Pairing) (ok : Bool) → Meets (λ m. Includes m w) s r ok
      → Meets (λ m. AlikeTypes (IsPair m) (type_at old t) (type_at new u)) s r ok
  pair_met w a s r ok k =
      subst (λ x. Meets (λ m. AlikeTypes (IsPair m) x (type_at new u)) s r ok) (sym is_old)
      (subst (λ y. Meets (λ m. AlikeTypes (IsPair m) (Some d) y) s r ok) (sym is_new)
      (asked_met (λ m. AlikeTypes (IsPair m) (Some d) (Some e)) w a s r ok k))

-- ## All pairs

-- The types of the first pairs are alike by all of them, and each list of pairs by which all its types are alike has them.
pub record IsExpanding (old new : Table) (s r : Pairing) (n : ℕ) : Type 0 where
  pub paired : IsPaired r
  pub as_many_old : length r.forward ≡ length s.forward
  pub as_many_new : length r.backward ≡ length s.backward
  pub added : (w : List TypePair) × (r.pairs ≡ s.pairs ++ w)
  pub expanded : AreExpanded old new r.pairs n
  pub forced : (m : List TypePair) → Includes m s.pairs → AllAlike old new m → Includes m r.pairs

pub at_front : {X : Type 0} (xs ys : List X) (i : ℕ) → i < length xs → slice_get (xs ++ ys) i ≡ slice_get xs i
at_front [] ys i l = absurd (omega (arith, l))
at_front (x ∷ xs) ys zero l = refl
at_front (x ∷ xs) ys (suc i) l = at_front xs ys i (omega (arith, l))

moved_up : (i k : ℕ) → (i < k) ⊎ (i ≡ k) → (suc i < suc k) ⊎ (suc i ≡ suc k)
moved_up i k (inl l) = inl (omega (arith, l))
moved_up i k (inr e) = inr (ap suc e)

-- a number below the next one is below, or that number
pub or_last : (i k : ℕ) → i < suc k → (i < k) ⊎ (i ≡ k)
or_last zero zero l = inr refl
or_last zero (suc k) l = inl (omega arith)
or_last (suc i) zero l = absurd (omega (arith, l))
or_last (suc i) (suc k) l = moved_up i k (or_last i k (omega (arith, l)))

-- the place of a pair
pub record PairAt (m : List TypePair) (t u : ℕ) : Type 0 where
  pub at : ℕ
  pub pair : TypePair
  pub is : slice_get m at ≡ Some pair
  pub is_old : t ≡ pair.old.0
  pub is_new : u ≡ pair.new.0

pub pair_at : (m : List TypePair) (t u : ℕ) → IsPair m t u → PairAt m t u
pair_at [] t u h = absurd h
pair_at (p ∷ ps) t u (inl h) = record { at = 0; pair = p; is = refl; is_old = h.0; is_new = h.1 }
pair_at (p ∷ ps) t u (inr h) = let a = pair_at ps t u h in record { at = suc a.at; pair = a.pair; is = a.is; is_old = a.is_old; is_new = a.is_new }

-- what is alike by some pairs is alike by those and more
pub expanded_more : (old new : Table) (s r : Pairing) (n : ℕ) → ((w : List TypePair) × (r.pairs ≡ s.pairs ++ w)) → n ≤ length s.pairs → AreExpanded old new s.pairs n
    → AreExpanded old new r.pairs n
expanded_more old new s r n a few k i p l is =
    let b : i < length s.pairs = omega (arith, l, few) in
    let e : slice_get s.pairs i ≡ Some p = sym (at_front s.pairs a.0 i b) ∙ ap (λ x. slice_get x i) (sym a.1) ∙ is in
    types_grow (IsPair s.pairs) (IsPair r.pairs) (λ t u h. included r.pairs s.pairs (added_includes s r a) t u h) (k i p l e)

-- the types of all pairs are alike, so those of the first are
pub all_expanded : (old new : Table) (m : List TypePair) (n : ℕ) → AllAlike old new m → AreExpanded old new m n
all_expanded old new m n a i p l is = a p.old.0 p.new.0 (one_of m m i p (itself m) is)

pub all_by : (old new : Table) (m : List TypePair) (n : ℕ) → length m ≤ n → AreExpanded old new m n → AllAlike old new m
all_by old new m n l k t u h =
    let a : PairAt m t u = pair_at m t u h in
    let b : a.at < length m = slice_get_within m a.at a.pair a.is in
    subst (λ x. AlikeTypes (IsPair m) (type_at old x) (type_at new u)) (sym a.is_old)
    (subst (λ y. AlikeTypes (IsPair m) (type_at old a.pair.old.0) (type_at new y)) (sym a.is_new) (k a.at a.pair (omega (arith, b, l)) a.is))

pub start : (old new : Table) (s : Pairing) (n : ℕ) → IsPaired s → AreExpanded old new s.pairs n → IsExpanding old new s s n
start old new s n k a = record { paired = k; as_many_old = refl; as_many_new = refl; added = ([], sym (append-nil s.pairs)); expanded = a; forced = λ m all h. all }

module _ (old new : Table) (s r : Pairing) (i : ℕ) (p : TypePair) (is : slice_get r.pairs i ≡ Some p) (k : IsExpanding old new s r i) where
  there : i < length r.pairs
  there = slice_get_within r.pairs i p is

  here : (m : List TypePair) → Includes m r.pairs → IsPair m p.old.0 p.new.0
  here m all = one_of m r.pairs i p all is

  pub turn : (r' : Pairing) → HasMet (λ m. AlikeTypes (IsPair m) (type_at old p.old.0) (type_at new p.new.0)) r r' → IsExpanding old new s r' (i + 1)
  turn r' h =
      record {
        paired = h.paired;
        as_many_old = h.as_many_old ∙ k.as_many_old;
        as_many_new = h.as_many_new ∙ k.as_many_new;
        added = (k.added.0 ++ h.added.0, h.added.1 ∙ ap (λ x. x ++ h.added.0) k.added.1 ∙ append_assoc s.pairs k.added.0 h.added.0);
        expanded = expanded;
        forced = λ m all a. let now : Includes m r.pairs = k.forced m all a in h.forced m now (a p.old.0 p.new.0 (here m now));
      }
    where
      last : (j : ℕ) (q : TypePair) → j ≡ i → slice_get r'.pairs j ≡ Some q → AlikeTypes (IsPair r'.pairs) (type_at old q.old.0) (type_at new q.new.0)
      last j q e e' =
          let f : slice_get r'.pairs i ≡ Some p = ap (λ x. slice_get x i) h.added.1 ∙ at_front r.pairs h.added.0 i there ∙ is in
          let same : p ≡ q = same_Some p q (sym f ∙ ap (λ x. slice_get r'.pairs x) (sym e) ∙ e') in
          subst (λ x. AlikeTypes (IsPair r'.pairs) (type_at old x.old.0) (type_at new x.new.0)) same h.met

      either : (j : ℕ) → j < i + 1 → (j < i) ⊎ (j ≡ i)
      either j l = or_last j i (omega (arith, l))

      by : (j : ℕ) (q : TypePair) → (j < i) ⊎ (j ≡ i) → slice_get r'.pairs j ≡ Some q → AlikeTypes (IsPair r'.pairs) (type_at old q.old.0) (type_at new q.new.0)
      by j q (inl l) e = expanded_more old new r r' i h.added (omega (arith, there)) k.expanded j q l e
      by j q (inr l) e = last j q l e

      expanded : AreExpanded old new r'.pairs (i + 1)
      expanded j q l e = by j q (either j l) e

  pub stop : ((m : List TypePair) → IsPossible r m → Includes m r.pairs → AlikeTypes (IsPair m) (type_at old p.old.0) (type_at new p.new.0) → ⊥)
      → (m : List TypePair) → IsPossible s m → Includes m s.pairs → AllAlike old new m → ⊥
  stop f m o all a =
      let now : Includes m r.pairs = k.forced m all a in
      let known : (t u : ℕ) → IsPair m t u → (t < length r.forward) × (u < length r.backward) =
      λ t u h. (subst (λ n. t < n) (sym k.as_many_old) (o.known t u h).0, subst (λ n. u < n) (sym k.as_many_new) (o.known t u h).1) in
      f m (record { one_to_one = o.one_to_one; known = known }) now (a p.old.0 p.new.0 (here m now))

pub over : (old new : Table) (s r : Pairing) (i : ℕ) → length r.pairs ≤ i → IsExpanding old new s r i → HasMet (AllAlike old new) s r
over old new s r i l k =
    record {
      paired = k.paired;
      as_many_old = k.as_many_old;
      as_many_new = k.as_many_new;
      added = k.added;
      met = all_by old new r.pairs i l k.expanded;
      forced = k.forced;
    }

-- there are at most as many pairs as old types
pub few_pairs : (old new : Table) (s r : Pairing) (i : ℕ) → length s.forward ≡ length old → IsExpanding old new s r i → length old ≤ i → length r.pairs ≤ i
few_pairs old new s r i e k l =
    let a : length r.pairs + empties r.forward ≡ length r.forward = k.paired.room in
    let b : length r.forward ≡ length s.forward = k.as_many_old in
    omega (arith, a, b, e, l)

pub past : {X : Type 0} (xs : List X) (i : ℕ) → slice_get xs i ≡ None → length xs ≤ i
past [] i e = omega arith
past (x ∷ xs) zero e = cc
past (x ∷ xs) (suc i) e = let b = past xs i e in omega (arith, b)
