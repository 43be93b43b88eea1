-- Parts and operations that are walked.
use Rattle.std.proofs.Common.{arith, ◌≡◌, ℕ, ◌+◌, ◌<◌, ◌≤◌, suc, Bool, true, false, not, List, [], ◌∷◌, Option}
use Rattle.std.proofs.Common.{Some, None, Result, Ok, Err, IfOk, refl, ap, sym, ◌∙◌, subst, length, get_or, inl, inr, ◌⊎◌}
use Rattle.std.specs.Prelude.{slice_get}
use Rattle.std.proofs.lemmas.Option.{same_Some, slice_get_cases, slice_get_past}
use Rattle.nd_types.specs.declared.interface.Interface.{Interface}
use Rattle.nd_types.specs.declared.types.TypeId.{TypeId}
use Rattle.nd_types.specs.declared.types.TypeDef.{TypeDef}
use Rattle.nd_types.specs.declared.types.Param.{Param}
use Rattle.nd_types.specs.declared.types.Operation.{Operation}
use Rattle.nd_types.specs.declared.TheConstants.{HANDLE}
use Rattle.idl_compat.specs.declared.pairs.TypePair.{TypePair}
use Rattle.idl_compat.specs.Comparison.{OneByOne, BothOrNone, Alike, AllAlike, AlikeFound, AlikeOperations, AlikeParams, AlikeTypes, IsPair}
use Rattle.idl_compat.specs.Asking.{Asks}
use Rattle.idl_compat.proofs.Expanding.{or_last}
use Rattle.idl_compat.proofs.Matched.{itself}
use Rattle.idl_compat.proofs.Growing.{alike_fewer, one_to_one}
use Rattle.idl_compat.proofs.Operating.{found_grow}
use Rattle.idl_compat_place.specs.declared.origins.Origin.{Origin}
use Rattle.idl_compat_place.specs.declared.origins.Origin.TheVariants as origin
use Rattle.idl_compat_place.specs.declared.trail.Trail.{Trail}
use Rattle.idl_compat_place.specs.declared.trail.Found.{Found}
use Rattle.idl_compat_place.specs.declared.trail.Found.TheVariants as found
use Rattle.idl_compat_place.specs.declared.trail.Finding.{Finding}
use Rattle.idl_compat_place.specs.declared.trail.End.{End}
use Rattle.idl_compat_place.specs.declared.places.Place.{Place}
use Rattle.idl_compat_place.specs.declared.places.Difference.{Difference}
use Rattle.idl_compat_place.specs.declared.places.Difference.TheVariants as difference
use Rattle.idl_compat_place.specs.Differences.{part_type, AlikeOrResults, AlikeParts, AlikePartsAt, AreHandles, AreAlikeUpTo, AreAsMany, IsPartBefore, IsVisitedBefore}
use Rattle.idl_compat_place.specs.Differences.{IsFirstDifference, IsFound, AreClashing, part_of}
use Rattle.idl_compat_place.specs.Trails.{IsOrigin, IsRefuted, IsEnd, IsPlaced, IsPath, IsEndInOrder, WalksFrom, AreWanted, IsWalkedTo, IsFoundAt}
use Rattle.idl_compat_place.specs.Trails.{IsFinding, IsDifferenceAt, AreOtherParams, AreOtherForms, WalksPart, WalksParams, WalksOperation, WalksAll}
use Rattle.idl_compat_place.proofs.Trailing.{trail_next, IsNext, below_or_from}
use Rattle.idl_compat_place.proofs.Ordered.{end_before, own_origin, own_there, steps_before}
use Rattle.idl_compat_place.proofs.Walked.{kept}

-- ## What two parameters ask for

pub params_asked : (p q : Param) (before after : List TypePair) (ok : Bool) → Asks (λ m. AlikeParams (IsPair m) p q) before after ok → AreOtherParams p q (not ok)
params_asked p q before after true (w, e, a) = (w, a.enough w (itself w))
params_asked p q before after false a = a

pub types_asked : (d e : TypeDef) (before after : List TypePair) (ok : Bool) → Asks (λ m. AlikeTypes (IsPair m) (Some d) (Some e)) before after ok → AreOtherForms d e (not ok)
types_asked d e before after true (w, f, a) = (w, a.enough w (itself w))
types_asked d e before after false a = a

module _ (p q : Param) where
  pub params_other : (b : Bool) → AreOtherParams p q b → b ≡ true → (m : List TypePair) → AlikeParams (IsPair m) p q → ⊥
  params_other true a e = a
  params_other false a e = cc

  module _ (o o' : Operation) (n : ℕ) (is : slice_get o.params n ≡ Some p) (is' : slice_get o'.params n ≡ Some q) where
    params_of : (R : ℕ → ℕ → Type 0) → AlikeParts R (Some o) (Some o') n → AlikeParams R p q
    params_of R a = subst (λ y. AlikeOrResults R o.result o'.result (Some p) y) is' (subst (λ x. AlikeOrResults R o.result o'.result x (slice_get o'.params n)) is a)

    pub other_params : (b : Bool) → AreOtherParams p q b → b ≡ true → (m : List TypePair) → AlikeParts (IsPair m) (Some o) (Some o') n → ⊥
    other_params b a e m h = params_other b a e m (params_of (IsPair m) h)

-- ## One part

module _ (R S : ℕ → ℕ → Type 0) (f : (t u : ℕ) → R t u → S t u) where
  types_grow : (p q : Param) → ((p.field.of.0 ≡ HANDLE.0) × (q.field.of.0 ≡ HANDLE.0)) ⊎ R p.field.of.0 q.field.of.0
      → ((p.field.of.0 ≡ HANDLE.0) × (q.field.of.0 ≡ HANDLE.0)) ⊎ S p.field.of.0 q.field.of.0
  types_grow p q (inl h) = inl h
  types_grow p q (inr r) = inr (f p.field.of.0 q.field.of.0 r)

  both_grow : (o p : Option TypeId) → BothOrNone R o p → BothOrNone S o p
  both_grow None None a = tt
  both_grow None (Some u) a = absurd a
  both_grow (Some t) None a = absurd a
  both_grow (Some t) (Some u) a = f t.0 u.0 a

  results_grow : (r s : Option TypeId) (p q : Option Param) → AlikeOrResults R r s p q → AlikeOrResults S r s p q
  results_grow r s None None a = both_grow r s a
  results_grow r s None (Some q) a = absurd a
  results_grow r s (Some p) None a = absurd a
  results_grow r s (Some p) (Some q) a = record { way = a.way; vars = a.vars; types = types_grow p q a.types }

  parts_grow : (o q : Option Operation) (n : ℕ) → AlikeParts R o q n → AlikeParts S o q n
  parts_grow None q n a = absurd a
  parts_grow (Some o) None n a = absurd a
  parts_grow (Some o) (Some q) n a = results_grow o.result q.result (slice_get o.params n) (slice_get q.params n) a

up_next : (k n : ℕ) → IsNext k n k (suc n)
up_next k n j i (inl (inl l)) = inl l
up_next k n j i (inl (inr (e, l))) = inr (e, omega (arith, l))
up_next k n j i (inr (e, f)) = inr (e, omega (arith, f))

up_over : (k n : ℕ) → IsNext k n (suc k) 0
up_over k n j i (inl (inl l)) = inl (omega (arith, l))
up_over k n j i (inl (inr (e, l))) = inl (omega (arith, e))
up_over k n j i (inr (e, f)) = inl (omega (arith, e))

module _ (old new : Interface) (k n : ℕ) (s : Trail) (a : IsWalkedTo old new k n s) where
  pub alike_up_to : AreAlikeUpTo old new k n
  alike_up_to = (s.pairing.pairs, a.alike, a.parts)

  pub finding : (z : Trail) (f : Found) → k < length old.operations → IsFoundAt old new k n z f → IsFinding old new z (record { op = k; part = n; found = f })
  finding z f l h = record { is_there = l; earlier = alike_up_to; found = h }

  module _ (o q : Operation) (is : slice_get old.operations k ≡ Some o) (is' : slice_get new.operations k ≡ Some q) where
    at_part : (R : ℕ → ℕ → Type 0) → AlikeParts R (Some o) (Some q) n → AlikePartsAt R old new k n
    at_part R h = subst (λ x. AlikeParts R x (slice_get new.operations k) n) (sym is) (subst (λ y. AlikeParts R (Some o) y n) (sym is') h)

    pub nothing_more : ((m : List TypePair) → AlikeParts (IsPair m) (Some o) (Some q) n) → IsWalkedTo old new k (suc n) s
    nothing_more h =
        record { trail = trail_next old new k n (length s.pairing.pairs) k (suc n) s (up_next k n) a.trail; alike = a.alike; parts = λ i l. by i (or_last i n l) }
      where
        by : (i : ℕ) → (i < n) ⊎ (i ≡ n) → AlikePartsAt (IsPair s.pairing.pairs) old new k i
        by i (inl l) = a.parts i l
        by i (inr e) = subst (λ x. AlikePartsAt (IsPair s.pairing.pairs) old new k x) (sym e) (at_part (IsPair s.pairing.pairs) (h s.pairing.pairs))

    module _ (p : TypePair) (w : AreWanted o q n p) where
      pub part_origin : IsOrigin old new k n (length s.pairing.pairs) s.pairing.pairs (length s.pairing.pairs) p (origin.Part k n)
      part_origin =
          record {
            earlier = λ l. absurd (omega (arith, l));
            own = λ l. (refl, refl);
            is_old = ap (λ x. part_type x n) is ∙ w.is_old;
            is_new = ap (λ x. part_type x n) is' ∙ w.is_new;
            no_handles = λ h. w.no_handles (subst (λ y. AreHandles (Some o) y n) is' (subst (λ x. AreHandles x (slice_get new.operations k) n) is h));
          }

      pub part_walked : (z : Trail) (f : Option Found) → WalksFrom old new k n p s z f → WalksPart old new k n z f
      part_walked z (Some f) h = h
      part_walked z None h =
          record {
            trail = trail_next old new k n (length s.pairing.pairs) k (suc n) z (up_next k n) h.trail;
            alike = record {
              one_to_one = one_to_one z.pairing h.trail.paired;
              operations = λ i l. found_grow (IsPair s.pairing.pairs) (IsPair z.pairing.pairs) grown (slice_get old.operations i) (slice_get new.operations i) (a.alike.operations i l);
              types = h.met.1;
            };
            parts = λ i l. by i (or_last i n l);
          }
        where
          grown : (t u : ℕ) → IsPair s.pairing.pairs t u → IsPair z.pairing.pairs t u
          grown t u x = kept old new k n (length s.pairing.pairs) (λ m. IsPair m p.old.0 p.new.0 × AllAlike old.types new.types m) s z h t u x

          by : (i : ℕ) → (i < n) ⊎ (i ≡ n) → AlikePartsAt (IsPair z.pairing.pairs) old new k i
          by i (inl l) = parts_grow (IsPair s.pairing.pairs) (IsPair z.pairing.pairs) grown (slice_get old.operations k) (slice_get new.operations k) i (a.parts i l)
          by i (inr e) = subst (λ x. AlikePartsAt (IsPair z.pairing.pairs) old new k x) (sym e) (at_part (IsPair z.pairing.pairs) (w.enough z.pairing.pairs h.met.0))

-- ## One operation

pub part_none : (old new : Interface) (k n : ℕ) (z : Trail) (f : Option Found) → WalksPart old new k n z f → f ≡ None → IsWalkedTo old new k (suc n) z
part_none old new k n z None h e = h
part_none old new k n z (Some f) h e = cc

pub part_some : (old new : Interface) (k n : ℕ) (z : Trail) (f : Option Found) (g : Found) → WalksPart old new k n z f → f ≡ Some g → IsFoundAt old new k n z g
part_some old new k n z None g h e = cc
part_some old new k n z (Some f) g h e = subst (IsFoundAt old new k n z) (same_Some f g e) h

pub as_next : (old new : Interface) (k n : ℕ) (z : Trail) → IsWalkedTo old new k (suc n) z → IsWalkedTo old new k (n + 1) z
as_next old new k n z h = let e : suc n ≡ n + 1 = omega arith in subst (λ x. IsWalkedTo old new k x z) e h

pub counts_differ : (old new : Interface) (k : ℕ) (s : Trail) → k < length old.operations → IsWalkedTo old new k 0 s
    → (AreAsMany (slice_get old.operations k) (slice_get new.operations k) → ⊥) → IsFinding old new s (record { op = k; part = 0; found = found.Counts })
counts_differ old new k s l a not = record { is_there = l; earlier = alike_up_to old new k 0 s a; found = (not, refl) }

pub no_new_operation : (x y : Option Operation) → y ≡ None → AreAsMany x y → ⊥
no_new_operation None y e h = h
no_new_operation (Some o) None e h = h
no_new_operation (Some o) (Some q) e h = cc

pub no_old_operation : (i : Interface) (k : ℕ) → slice_get i.operations k ≡ None → k < length i.operations → ⊥
no_old_operation i k e l = by (slice_get_cases i.operations k).1
  where
    by : ((x : Operation) × (k < length i.operations) × (slice_get i.operations k ≡ Some x) × (get_or i.operations k x ≡ x)) ⊎ ((length i.operations ≤ k) × (slice_get i.operations k ≡ None)) → ⊥
    by (inl (x, l', is, r)) = let f : None ≡ Some x = sym e ∙ is in (let g : ⊥ = cc in g)
    by (inr (l', is)) = omega (arith, l, l')

one_by_all : (R : ℕ → ℕ → Type 0) (r s : Option TypeId) (ps qs : List Param) → length ps ≡ length qs
    → ((i : ℕ) → i < length ps → AlikeOrResults R r s (slice_get ps i) (slice_get qs i)) → OneByOne (AlikeParams R) ps qs
one_by_all R r s [] [] e f = tt
one_by_all R r s [] (q ∷ qs) e f = cc
one_by_all R r s (p ∷ ps) [] e f = cc
one_by_all R r s (p ∷ ps) (q ∷ qs) e f = (f 0 (omega arith), one_by_all R r s ps qs (omega (arith, e)) (λ i l. f (suc i) (omega (arith, l))))

module _ (old new : Interface) (k : ℕ) (o q : Operation) (is : slice_get old.operations k ≡ Some o) (is' : slice_get new.operations k ≡ Some q)
    (many : length q.params ≡ length o.params) (z : Trail) (a : IsWalkedTo old new k (suc (length o.params)) z) where
  abbrev pub R : ℕ → ℕ → Type 0
  R = IsPair z.pairing.pairs

  part : (i : ℕ) → i < suc (length o.params) → AlikeOrResults R o.result q.result (slice_get o.params i) (slice_get q.params i)
  part i l = subst (λ y. AlikeParts R (Some o) y i) is' (subst (λ x. AlikeParts R x (slice_get new.operations k) i) is (a.parts i l))

  results : BothOrNone R o.result q.result
  results =
      subst (λ y. AlikeOrResults R o.result q.result None y) (slice_get_past q.params (length o.params) (omega (arith, many)))
      (subst (λ x. AlikeOrResults R o.result q.result x (slice_get q.params (length o.params))) (slice_get_past o.params (length o.params) (omega arith))
      (part (length o.params) (omega arith)))

  pub whole : IsWalkedTo old new (suc k) 0 z
  whole =
      record {
        trail = trail_next old new k (suc (length o.params)) (length z.pairing.pairs) (suc k) 0 z (up_over k (suc (length o.params))) a.trail;
        alike = record { one_to_one = a.alike.one_to_one; operations = λ i l. by i (or_last i k l); types = a.alike.types };
        parts = λ i l. absurd (omega (arith, l));
      }
    where
      both : AlikeOperations R o q
      both = record { params = one_by_all R o.result q.result o.params q.params (sym many) (λ i l. part i (omega (arith, l))); result = results }

      here : AlikeFound R (slice_get old.operations k) (slice_get new.operations k)
      here = subst (λ x. AlikeFound R x (slice_get new.operations k)) (sym is) (subst (λ y. AlikeFound R (Some o) y) (sym is') both)

      by : (i : ℕ) → (i < k) ⊎ (i ≡ k) → AlikeFound R (slice_get old.operations i) (slice_get new.operations i)
      by i (inl l) = a.alike.operations i l
      by i (inr e) = subst (λ x. AlikeFound R (slice_get old.operations x) (slice_get new.operations x)) (sym e) here

pub all_walked : (old new : Interface) (k : ℕ) (s : Trail) → length old.operations ≤ k → IsWalkedTo old new k 0 s → Alike old new s.pairing.pairs (length old.operations)
all_walked old new k s l a = alike_fewer old new s.pairing.pairs (length old.operations) k l a.alike

-- ## Differences

pub first_at : (old new : Interface) (z : Trail) (k n : ℕ) (g : Found) (d : Difference) → IsFinding old new z (record { op = k; part = n; found = g }) → IsDifferenceAt old new k n d
    → IsFirstDifference old new d
first_at old new z k n g d f h =
    record {
      is_there = subst (λ x. x < length old.operations) (sym h.is_op) f.is_there;
      earlier = subst (λ x. AreAlikeUpTo old new x (part_of d)) (sym h.is_op) (subst (λ y. AreAlikeUpTo old new k y) (sym h.is_part) f.earlier);
      differs = h.differs;
    }

module _ (old new : Interface) (k n base : ℕ) (s : Trail) (p : TypePair) (g : Origin) (o : Option ℕ) (e : IsEnd old new k n base s (record { pair = p; origin = g; other = o }))
    (l : Place) (place : IsPlaced old new k n base e.before l p) (path : IsPath s.origins g l.op l.part l.steps) where
  abbrev own : (l.op ≡ k) × (l.part ≡ n)
  own = place.own e.is_own

  pub types_differ : o ≡ None → IsDifferenceAt old new k n (difference.Types l p)
  types_differ is =
      record {
        differs = record { place = place.place; unlike = subst (λ x. IsRefuted old new s.pairing.pairs p x) is e.refuted };
        is_op = own.0;
        is_part = own.1;
      }

  visited : (at : ℕ) → o ≡ Some at → IsEndInOrder base s.origins (record { pair = p; origin = g; other = o }) → (r : TypePair) → slice_get s.pairing.pairs at ≡ Some r
      → (h : Origin) → slice_get s.origins at ≡ Some h → (l' : Place) → IsPlaced old new k n base at l' r → IsPath s.origins h l'.op l'.part l'.steps
      → IsVisitedBefore l' l
  visited at is order r there h of l' place' path' = by (below_or_from at base)
    where
      by : (at < base) ⊎ (base ≤ at) → IsVisitedBefore l' l
      by (inl less) = inl (subst (λ x. IsPartBefore l'.op l'.part x l.part) (sym own.0) (subst (λ y. IsPartBefore l'.op l'.part k y) (sym own.1) (place'.earlier less)))
      by (inr more) =
          let b = end_before base s.origins (record { pair = p; origin = g; other = o }) at order is in
          let here = place'.own more in
          inr (
            here.0 ∙ sym own.0,
            here.1 ∙ sym own.1,
            steps_before old new k n base s e.trail b.sorted l'.op l'.part l.op l.part l'.steps l.steps h g (own_there old new k n base s e.trail at h more of)
                (own_origin old new k n base s.pairing.pairs e.before p g e.origin e.is_own) (b.before at h more of) path' path,
          )

  pub pairs_clash : (at : ℕ) → o ≡ Some at → IsEndInOrder base s.origins (record { pair = p; origin = g; other = o }) → (r : TypePair) → slice_get s.pairing.pairs at ≡ Some r
      → (h : Origin) → slice_get s.origins at ≡ Some h → (l' : Place) → IsPlaced old new k n base at l' r → IsPath s.origins h l'.op l'.part l'.steps
      → IsDifferenceAt old new k n (difference.Clash l p l' r)
  pairs_clash at is order r there h of l' place' path' =
      let (r', there', clashing) = subst (λ x. IsRefuted old new s.pairing.pairs p x) is e.refuted in
      record {
        differs = record {
          place = place.place;
          earlier = place'.place;
          is_earlier = visited at is order r there h of l' place' path';
          clashing = subst (AreClashing p) (same_Some r' r (sym there' ∙ there)) clashing;
        };
        is_op = own.0;
        is_part = own.1;
      }

pub ends_first : {E : Type 0} (old new : Interface) (s : Trail) (f : Finding) (e : End) → f.found ≡ found.Ends e → IsFinding old new s f → (r : Result Difference E)
    → ((base : ℕ) → IsEnd old new f.op f.part base s e → IsEndInOrder base s.origins e → IfOk r (IsDifferenceAt old new f.op f.part)) → IfOk r (IsFirstDifference old new)
ends_first old new s f e is h (Err x) by = tt
ends_first old new s f e is h (Ok d) by =
    let (base, end, order) = subst (λ x. IsFoundAt old new f.op f.part s x) is h.found in
    first_at old new s f.op f.part f.found d h (by base end order)

-- ## What walks answer

pub part_if_ok : {E : Type 0} (old new : Interface) (k n : ℕ) (s : Trail) (a : IsWalkedTo old new k n s) (o q : Operation) → slice_get old.operations k ≡ Some o
    → slice_get new.operations k ≡ Some q → (p : TypePair) → AreWanted o q n p → (z : Trail) (r : Result (Option Found) E) → IfOk r (WalksFrom old new k n p s z)
    → IfOk r (WalksPart old new k n z)
part_if_ok old new k n s a o q is is' p w z (Err x) h = tt
part_if_ok old new k n s a o q is is' p w z (Ok f) h = part_walked old new k n s a o q is is' p w z f h

pub params_none : (old new : Interface) (k count : ℕ) (z : Trail) (f : Option Finding) → WalksParams old new k count z f → f ≡ None → IsWalkedTo old new k count z
params_none old new k count z None h e = h
params_none old new k count z (Some f) h e = cc

pub params_some : (old new : Interface) (k count : ℕ) (z : Trail) (f : Option Finding) (g : Finding) → WalksParams old new k count z f → f ≡ Some g → IsFinding old new z g
params_some old new k count z None g h e = cc
params_some old new k count z (Some f) g h e = subst (IsFinding old new z) (same_Some f g e) h

pub operation_none : (old new : Interface) (k : ℕ) (z : Trail) (f : Option Finding) → WalksOperation old new k z f → f ≡ None → IsWalkedTo old new (k + 1) 0 z
operation_none old new k z None h e = let same : suc k ≡ k + 1 = omega arith in subst (λ x. IsWalkedTo old new x 0 z) same h
operation_none old new k z (Some f) h e = cc

pub operation_some : (old new : Interface) (k : ℕ) (z : Trail) (f : Option Finding) (g : Finding) → WalksOperation old new k z f → f ≡ Some g → IsFinding old new z g
operation_some old new k z None g h e = cc
operation_some old new k z (Some f) g h e = subst (IsFinding old new z) (same_Some f g e) h

pub all_none : (old new : Interface) (z : Trail) (f : Option Finding) → WalksAll old new z f → f ≡ None → IsFound old new None
all_none old new z None h e = (z.pairing.pairs, h)
all_none old new z (Some f) h e = cc

pub all_some : (old new : Interface) (z : Trail) (f : Option Finding) (g : Finding) → WalksAll old new z f → f ≡ Some g → IsFinding old new z g
all_some old new z None g h e = cc
all_some old new z (Some f) g h e = subst (IsFinding old new z) (same_Some f g e) h
