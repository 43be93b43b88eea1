-- Walks, one after the other: what they meet together.
use Rattle.std.proofs.Common.{arith, ◌≡◌, ℕ, ◌+◌, ◌<◌, ◌≤◌, zero, suc, Bool, true, false, List, [], ◌++◌, Option, Some, None, ap, sym, ◌∙◌, subst, length, inl, inr, ◌⊎◌, append_assoc}
use Rattle.std.proofs.Common.{append-nil}
use Rattle.std.specs.Prelude.{slice_get}
use Rattle.std.proofs.lemmas.Option.{same_Some, slice_get_within}
use Rattle.nd_types.specs.declared.interface.Interface.{Interface}
use Rattle.nd_types.specs.declared.types.TypeId.{TypeId}
use Rattle.nd_types.specs.declared.types.TypeDef.{TypeDef}
use Rattle.nd_types.specs.Table.{type_at}
use Rattle.idl_compat.specs.declared.pairs.TypePair.{TypePair}
use Rattle.idl_compat.specs.Comparison.{AlikeTypes, AllAlike, IsPair}
use Rattle.idl_compat.specs.Placing.{empties}
use Rattle.idl_compat.specs.Matching.{AreExpanded}
use Rattle.idl_compat.proofs.Expanding.{at_front, or_last, expanded_more, all_expanded, all_by}
use Rattle.idl_compat.proofs.Placed.{pair_left}
use Rattle.idl_compat_place.specs.declared.steps.Step.{Step}
use Rattle.idl_compat_place.specs.declared.steps.Step.TheVariants as step
use Rattle.idl_compat_place.specs.declared.origins.Origin.{Origin}
use Rattle.idl_compat_place.specs.declared.origins.Origin.TheVariants as origin
use Rattle.idl_compat_place.specs.declared.trail.Trail.{Trail}
use Rattle.idl_compat_place.specs.declared.trail.End.{End}
use Rattle.idl_compat_place.specs.Differences.{child, child_of, nth_child, AreUnlike}
use Rattle.idl_compat_place.specs.Trails.{IsOrigin, IsTrail, IsEnd, HasWalked, Walks, IsChildPaired, ArePartsPaired, AreChildrenPaired, AreOtherForms}
use Rattle.idl_compat_place.proofs.Forms.{alike_by}
use Rattle.idl_compat_place.proofs.Leading.{origin_there}

module _ (old new : Interface) (k n base : ℕ) where
  -- nothing is added
  pub stays : (P : List TypePair → Type 0) (s : Trail) → IsTrail old new k n base s → P s.pairing.pairs → HasWalked old new k n base P s s
  stays P s a h = record { trail = a; added = ([], sym (append-nil s.pairing.pairs)); met = h }

  -- a pair that was there is there after a walk
  pub kept : (P : List TypePair → Type 0) (s r : Trail) → HasWalked old new k n base P s r → (t u : ℕ) → IsPair s.pairing.pairs t u → IsPair r.pairing.pairs t u
  kept P s r h t u p = subst (λ x. IsPair x t u) (sym h.added.1) (pair_left s.pairing.pairs h.added.0 t u p)

  -- one walk after the other
  pub after : (P Q R : List TypePair → Type 0) (s r z : Trail) → HasWalked old new k n base P s r → HasWalked old new k n base Q r z → R z.pairing.pairs
      → HasWalked old new k n base R s z
  after P Q R s r z h f is =
      record {
        trail = f.trail;
        added = (h.added.0 ++ f.added.0, f.added.1 ∙ ap (λ x. x ++ f.added.0) h.added.1 ∙ append_assoc s.pairing.pairs h.added.0 f.added.0);
        met = is;
      }

  pub walked_as : (P Q : List TypePair → Type 0) → ((m : List TypePair) → P m → Q m) → (s r : Trail) (e : Option End) → Walks old new k n base P s r e → Walks old new k n base Q s r e
  walked_as P Q f s r None h = record { trail = h.trail; added = h.added; met = f r.pairing.pairs h.met }
  walked_as P Q f s r (Some e) h = h

  pub walked_none : (P : List TypePair → Type 0) (s r : Trail) (e : Option End) → Walks old new k n base P s r e → e ≡ None → HasWalked old new k n base P s r
  walked_none P s r None h is = h
  walked_none P s r (Some e) h is = cc

  pub walked_some : (P : List TypePair → Type 0) (s r : Trail) (e : Option End) (d : End) → Walks old new k n base P s r e → e ≡ Some d → IsEnd old new k n base r d
  walked_some P s r None d h is = cc
  walked_some P s r (Some e) d h is = subst (IsEnd old new k n base r) (same_Some e d is) h

  -- the same after an earlier walk
  pub walked_after : (P Q R : List TypePair → Type 0) (s r z : Trail) (e : Option End) → HasWalked old new k n base P s r → Walks old new k n base Q r z e
      → (HasWalked old new k n base Q r z → R z.pairing.pairs) → Walks old new k n base R s z e
  walked_after P Q R s r z None h f g = after P Q R s r z h f (g f)
  walked_after P Q R s r z (Some e) h f g = f

  -- ## One step

  module _ (d e : TypeDef) (from : ℕ) (p : TypePair) where
    pub no_old_child : (n' : Step) (m : List TypePair) → None ≡ child d n' → IsChildPaired d e n' m
    no_old_child n' m is t u a b = absurd (none_some (is ∙ a))
      where
        none_some : None ≡ Some t → ⊥
        none_some x = cc

    pub no_new_child : (n' : Step) (m : List TypePair) → None ≡ child e n' → IsChildPaired d e n' m
    no_new_child n' m is t u a b = absurd (none_some (is ∙ b))
      where
        none_some : None ≡ Some u → ⊥
        none_some x = cc

    pub child_paired : (n' : Step) (t u : TypeId) → Some t ≡ child d n' → Some u ≡ child e n' → (m : List TypePair) → IsPair m t.0 u.0 → IsChildPaired d e n' m
    child_paired n' t u is is' m h t' u' a b =
        subst (λ x. IsPair m x.0 u'.0) (same_Some t t' (is ∙ a)) (subst (λ y. IsPair m t.0 y.0) (same_Some u u' (is' ∙ b)) h)

    pub child_origin : (s : Trail) → base ≤ from → slice_get s.pairing.pairs from ≡ Some p → type_at old.types p.old.0 ≡ Some d → type_at new.types p.new.0 ≡ Some e
        → (n' : Step) (t u : TypeId) → Some t ≡ child d n' → Some u ≡ child e n'
        → IsOrigin old new k n base s.pairing.pairs (length s.pairing.pairs) (record { old = t; new = u }) (origin.Step from n')
    child_origin s l at is_old is_new n' t u a b =
        record {
          pair = p;
          is_earlier = slice_get_within s.pairing.pairs from p at;
          own = λ x. l;
          is_pair = at;
          is_old = ap (λ x. child_of x n') is_old ∙ sym a;
          is_new = ap (λ x. child_of x n') is_new ∙ sym b;
        }

    -- a pair is where it was after a walk
    pub still_there : (P : List TypePair → Type 0) (s r : Trail) → HasWalked old new k n base P s r → slice_get s.pairing.pairs from ≡ Some p
        → slice_get r.pairing.pairs from ≡ Some p
    still_there P s r h at =
        ap (λ x. slice_get x from) h.added.1 ∙ at_front s.pairing.pairs h.added.0 from (slice_get_within s.pairing.pairs from p at) ∙ at

    child_grows : (n' : Step) (P : List TypePair → Type 0) (s r : Trail) → HasWalked old new k n base P s r → IsChildPaired d e n' s.pairing.pairs → IsChildPaired d e n' r.pairing.pairs
    child_grows n' P s r h a t u is is' = kept P s r h t.0 u.0 (a t u is is')

    -- ## All parts

    abbrev pub ArePaired : ℕ → List TypePair → Type 0
    ArePaired many m = (j : ℕ) → j < many → IsChildPaired d e (step.Nth j) m

    pub parts_start : (s : Trail) → IsTrail old new k n base s → HasWalked old new k n base (ArePaired 0) s s
    parts_start s a = stays (ArePaired 0) s a (λ j l. absurd (omega (arith, l)))

    pub parts_turn : (many : ℕ) (s r z : Trail) → HasWalked old new k n base (ArePaired many) s r → HasWalked old new k n base (IsChildPaired d e (step.Nth many)) r z
        → HasWalked old new k n base (ArePaired (many + 1)) s z
    parts_turn many s r z h f =
        after (ArePaired many) (IsChildPaired d e (step.Nth many)) (ArePaired (many + 1)) s r z h f (λ j l. by j (or_last j many (omega (arith, l))))
      where
        by : (j : ℕ) → (j < many) ⊎ (j ≡ many) → IsChildPaired d e (step.Nth j) z.pairing.pairs
        by j (inl l) = child_grows (step.Nth j) (IsChildPaired d e (step.Nth many)) r z f (h.met j l)
        by j (inr is) = subst (λ x. IsChildPaired d e (step.Nth x) z.pairing.pairs) (sym is) f.met

    pub parts_over : (many : ℕ) (s r : Trail) → ((j : ℕ) → many ≤ j → nth_child d j ≡ None) → HasWalked old new k n base (ArePaired many) s r
        → HasWalked old new k n base (ArePartsPaired d e) s r
    parts_over many s r past h = record { trail = h.trail; added = h.added; met = λ j. by j (below j many) }
      where
        below : (j many : ℕ) → (j < many) ⊎ (many ≤ j)
        below j zero = inr (omega arith)
        below zero (suc many) = inl (omega arith)
        below (suc j) (suc many) = up (below j many)
          where
            up : (j < many) ⊎ (many ≤ j) → (suc j < suc many) ⊎ (suc many ≤ suc j)
            up (inl l) = inl (omega (arith, l))
            up (inr l) = inr (omega (arith, l))

        by : (j : ℕ) → (j < many) ⊎ (many ≤ j) → IsChildPaired d e (step.Nth j) r.pairing.pairs
        by j (inl l) = h.met j l
        by j (inr l) = no_old_child (step.Nth j) r.pairing.pairs (sym (past j l))

    -- ## All children

    pub children : (s a b z : Trail) (o : Option End) → HasWalked old new k n base (ArePartsPaired d e) s a → HasWalked old new k n base (IsChildPaired d e step.Default) a b
        → Walks old new k n base (IsChildPaired d e step.Tag) b z o → Walks old new k n base (AreChildrenPaired d e) s z o
    children s a b z o h f g =
        walked_after (ArePartsPaired d e) (IsChildPaired d e step.Tag) (AreChildrenPaired d e) s b z o
        (after (ArePartsPaired d e) (IsChildPaired d e step.Default) (ArePartsPaired d e) s a b h f (λ j. child_grows (step.Nth j) (IsChildPaired d e step.Default) a b f (h.met j))) g
        (λ w. all w)
      where
        all : HasWalked old new k n base (IsChildPaired d e step.Tag) b z → AreChildrenPaired d e z.pairing.pairs
        all w (step.Nth j) =
            child_grows (step.Nth j) (IsChildPaired d e step.Tag) b z w (child_grows (step.Nth j) (IsChildPaired d e step.Default) a b f (h.met j))
        all w step.Default = child_grows step.Default (IsChildPaired d e step.Tag) b z w f.met
        all w step.Tag = w.met

    -- ## The types of a pair

    pub pair_alike : (s z : Trail) (o : Option End) → type_at old.types p.old.0 ≡ Some d → type_at new.types p.new.0 ≡ Some e → (b : Bool) → AreOtherForms d e b → b ≡ false
        → Walks old new k n base (AreChildrenPaired d e) s z o
        → Walks old new k n base (λ m. AlikeTypes (IsPair m) (type_at old.types p.old.0) (type_at new.types p.new.0)) s z o
    pair_alike s z o is_old is_new true f not w = cc
    pair_alike s z o is_old is_new false (m', alike) not w =
        walked_as (AreChildrenPaired d e) (λ m. AlikeTypes (IsPair m) (type_at old.types p.old.0) (type_at new.types p.new.0))
        (λ m c. subst (λ x. AlikeTypes (IsPair m) x (type_at new.types p.new.0)) (sym is_old)
        (subst (λ y. AlikeTypes (IsPair m) (Some d) y) (sym is_new) (alike_by (IsPair m') (IsPair m) d e alike c))) s z o w

    pub forms_unlike : type_at old.types p.old.0 ≡ Some d → type_at new.types p.new.0 ≡ Some e → (b : Bool) → AreOtherForms d e b → b ≡ true → AreUnlike old new p
    forms_unlike is_old is_new false f e' = cc
    forms_unlike is_old is_new true f e' = λ m one pair alike.
        f m (subst (λ y. AlikeTypes (IsPair m) (Some d) y) is_new (subst (λ x. AlikeTypes (IsPair m) x (type_at new.types p.new.0)) is_old alike))

  -- where the types of a pair differ, the walk ends at it
  pub ends_at : (s : Trail) (at : ℕ) (p : TypePair) (g : Origin) → IsTrail old new k n base s → base ≤ at → slice_get s.pairing.pairs at ≡ Some p
      → ((f : Origin) → slice_get s.origins at ≡ Some f → g ≡ f) → AreUnlike old new p → IsEnd old new k n base s (record { pair = p; origin = g; other = None })
  ends_at s at p g a l is found unlike =
      let less : at < length s.pairing.pairs = slice_get_within s.pairing.pairs at p is in
      let (f, there) = origin_there s at a.as_many less in
      record {
        trail = a;
        before = at;
        is_own = l;
        few = omega (arith, less);
        origin = subst (λ x. IsOrigin old new k n base s.pairing.pairs at p x) (sym (found f there)) (a.each at p f is there);
        refuted = unlike;
      }

  -- ## The types of all pairs

  pub types_start : (s : Trail) (from : ℕ) → IsTrail old new k n base s → AreExpanded old.types new.types s.pairing.pairs from
      → HasWalked old new k n base (λ m. AreExpanded old.types new.types m from) s s
  types_start s from a h = stays (λ m. AreExpanded old.types new.types m from) s a h

  pub types_turn : (at : ℕ) (p : TypePair) (s r z : Trail) → slice_get r.pairing.pairs at ≡ Some p
      → HasWalked old new k n base (λ m. AreExpanded old.types new.types m at) s r
      → HasWalked old new k n base (λ m. AlikeTypes (IsPair m) (type_at old.types p.old.0) (type_at new.types p.new.0)) r z
      → HasWalked old new k n base (λ m. AreExpanded old.types new.types m (at + 1)) s z
  types_turn at p s r z is h f =
      after (λ m. AreExpanded old.types new.types m at) (λ m. AlikeTypes (IsPair m) (type_at old.types p.old.0) (type_at new.types p.new.0))
      (λ m. AreExpanded old.types new.types m (at + 1)) s r z h f (λ j q l e. by j q (or_last j at (omega (arith, l))) e)
    where
      there : at < length r.pairing.pairs
      there = slice_get_within r.pairing.pairs at p is

      last : (j : ℕ) (q : TypePair) → j ≡ at → slice_get z.pairing.pairs j ≡ Some q
          → AlikeTypes (IsPair z.pairing.pairs) (type_at old.types q.old.0) (type_at new.types q.new.0)
      last j q e e' =
          let g : slice_get z.pairing.pairs at ≡ Some p = ap (λ x. slice_get x at) f.added.1 ∙ at_front r.pairing.pairs f.added.0 at there ∙ is in
          let same : p ≡ q = same_Some p q (sym g ∙ ap (λ x. slice_get z.pairing.pairs x) (sym e) ∙ e') in
          subst (λ x. AlikeTypes (IsPair z.pairing.pairs) (type_at old.types x.old.0) (type_at new.types x.new.0)) same f.met

      by : (j : ℕ) (q : TypePair) → (j < at) ⊎ (j ≡ at) → slice_get z.pairing.pairs j ≡ Some q
          → AlikeTypes (IsPair z.pairing.pairs) (type_at old.types q.old.0) (type_at new.types q.new.0)
      by j q (inl l) e = expanded_more old.types new.types r.pairing z.pairing at f.added (omega (arith, there)) h.met j q l e
      by j q (inr e') e = last j q e' e

  pub types_over : (at : ℕ) (s r : Trail) → length r.pairing.pairs ≤ at → HasWalked old new k n base (λ m. AreExpanded old.types new.types m at) s r
      → HasWalked old new k n base (AllAlike old.types new.types) s r
  types_over at s r l h = record { trail = h.trail; added = h.added; met = all_by old.types new.types r.pairing.pairs at l h.met }

  -- there are at most as many pairs as old types
  pub few_pairs : (at : ℕ) (r : Trail) → IsTrail old new k n base r → length old.types ≤ at → length r.pairing.pairs ≤ at
  few_pairs at r a l =
      let b : length r.pairing.pairs + empties r.pairing.forward ≡ length r.pairing.forward = a.paired.room in
      let c = a.as_many_old in
      omega (arith, b, c, l)

  pub expanded_from : (P : List TypePair → Type 0) (s r : Trail) (from : ℕ) → from ≡ length s.pairing.pairs → AllAlike old.types new.types s.pairing.pairs → HasWalked old new k n base P s r
      → AreExpanded old.types new.types r.pairing.pairs from
  expanded_from P s r from is all h =
      subst (λ x. AreExpanded old.types new.types r.pairing.pairs x) (sym is)
      (expanded_more old.types new.types s.pairing r.pairing (length s.pairing.pairs) h.added (omega arith) (all_expanded old.types new.types s.pairing.pairs (length s.pairing.pairs) all))

  -- the walk from the types of a part
  pub part_types : (p : TypePair) (s r z : Trail) → HasWalked old new k n base (λ m. IsPair m p.old.0 p.new.0) s r → HasWalked old new k n base (AllAlike old.types new.types) r z
      → HasWalked old new k n base (λ m. IsPair m p.old.0 p.new.0 × AllAlike old.types new.types m) s z
  part_types p s r z h f =
      after (λ m. IsPair m p.old.0 p.new.0) (AllAlike old.types new.types) (λ m. IsPair m p.old.0 p.new.0 × AllAlike old.types new.types m) s r z h f
      (kept (AllAlike old.types new.types) r z f p.old.0 p.new.0 h.met, f.met)
