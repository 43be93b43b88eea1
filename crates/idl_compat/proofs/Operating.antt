-- Operations of two interfaces, matched one after the other.
use Rattle.std.proofs.Common.{arith, ◌≡◌, ℕ, ◌+◌, ◌<◌, ◌≤◌, zero, suc, Bool, true, false, List, [], ◌∷◌, ◌++◌, Option, Some, None, refl, ap, sym, ◌∙◌, subst, length, inl, inr, ◌⊎◌, replicate, get_or}
use Rattle.std.specs.Prelude.{slice_get}
use Rattle.std.proofs.lemmas.List.{length-replicate}
use Rattle.std.proofs.lemmas.Option.{same_Some, slice_get_within}
use Rattle.nd_types.specs.declared.interface.Interface.{Interface}
use Rattle.nd_types.specs.declared.types.Operation.{Operation}
use Rattle.nd_types.specs.Table.{type_at}
use Rattle.idl_compat.specs.declared.pairs.TypePair.{TypePair}
use Rattle.idl_compat.specs.declared.placing.Pairing.{Pairing}
use Rattle.idl_compat.specs.Comparison.{IsPair, IsOneToOne, Alike, AllAlike, AlikeFound, HasAll, IsFirst, IsFirstDifferent, IsAllAlike, IsCompared, HasPartners}
use Rattle.idl_compat.specs.Asking.{Includes}
use Rattle.idl_compat.specs.declared.compared.Compared.{Compared}
use Rattle.idl_compat.specs.declared.compared.Compared.TheVariants as compared
use Rattle.idl_compat.specs.Streams.{IsStreamOf, CarriesStreams}
use Rattle.idl_compat.specs.Placing.{IsPaired, IsEmptyPairing, empties}
use Rattle.idl_compat.specs.Matching.{IsPossible, HasMet, Meets, AreExpanded, IsMatched, MatchesOne, MatchesAll}
use Rattle.idl_compat.proofs.Placed.{included}
use Rattle.idl_compat.proofs.Matched.{added_includes}
use Rattle.idl_compat.proofs.Growing.{operations_grow, alike_fewer, one_to_one, needed_pair}
use Rattle.idl_compat.proofs.Expanding.{expanded_more, all_expanded, or_last}
use Rattle.idl_compat.proofs.Carrying.{both_there, within, carried, carried_back}

-- by what pairs operations are alike, by those and more they are
pub found_grow : (R S : ℕ → ℕ → Type 0) → ((t u : ℕ) → R t u → S t u) → (x y : Option Operation) → AlikeFound R x y → AlikeFound S x y
found_grow R S f None y a = absurd a
found_grow R S f (Some o) None a = absurd a
found_grow R S f (Some o) (Some q) a = operations_grow R S f o q a

no_old_found : (R : ℕ → ℕ → Type 0) (x y : Option Operation) → AlikeFound R x y → x ≡ None → ⊥
no_old_found R None y a e = a
no_old_found R (Some o) y a e = cc

no_new_found : (R : ℕ → ℕ → Type 0) (x y : Option Operation) → AlikeFound R x y → y ≡ None → ⊥
no_new_found R None y a e = a
no_new_found R (Some o) None a e = a
no_new_found R (Some o) (Some q) a e = cc

-- ## The start

none_free : (n t u : ℕ) → get_or (replicate {A = Option ℕ} n None) t None ≡ Some u → ⊥
none_free zero t u e = cc
none_free (suc n) zero u e = cc
none_free (suc n) (suc t) u e = none_free n t u e

all_empty : (n : ℕ) → empties (replicate {A = Option ℕ} n None) ≡ n
all_empty zero = refl
all_empty (suc n) = ap suc (all_empty n)

pub nothing_matched : (old new : Interface) (s : Pairing) → IsEmptyPairing old new s → IsMatched old new 0 s
nothing_matched old new s k =
    record {
      paired = paired;
      as_many_old = ap length k.forward ∙ length-replicate {A = Option ℕ} (length old.types) None;
      as_many_new = ap length k.backward ∙ length-replicate {A = Option ℕ} (length new.types) None;
      alike = record {
        one_to_one = one_to_one s paired;
        operations = λ i l. absurd (omega (arith, l));
        types = λ t u h. absurd (no_pair t u h);
      };
      forced = λ m a. subst (λ x. Includes m x) (sym k.pairs) tt;
    }
  where
    no_pair : (t u : ℕ) → IsPair s.pairs t u → ⊥
    no_pair t u h = subst (λ x. IsPair x t u) k.pairs h

    room : length s.pairs + empties s.forward ≡ length s.forward
    room =
        let a : length s.pairs ≡ 0 = ap length k.pairs in
        let b : empties s.forward ≡ length old.types = ap empties k.forward ∙ all_empty (length old.types) in
        let c : length s.forward ≡ length old.types = ap length k.forward ∙ length-replicate {A = Option ℕ} (length old.types) None in
        omega (arith, a, b, c)

    paired : IsPaired s
    paired =
        record {
          to_new = λ t u h. absurd (no_pair t u h);
          to_old = λ t u h. absurd (no_pair t u h);
          of_new = λ t u e. absurd (none_free (length old.types) t u (ap (λ x. get_or x t None) (sym k.forward) ∙ e));
          of_old = λ t u e. absurd (none_free (length new.types) u t (ap (λ x. get_or x u None) (sym k.backward) ∙ e));
          basic = λ t u h. absurd (no_pair t u h);
          room = room;
        }

-- ## One operation

module _ (old new : Interface) (k : ℕ) (s : Pairing) (a : IsMatched old new k s) where
  possible : (m : List TypePair) (n : ℕ) → Alike old new m n → IsPossible s m
  possible m n b =
      record {
        one_to_one = b.one_to_one;
        known = λ t u h. let (x, y) = both_there (IsPair m) (b.types t u h) in
            (subst (λ z. t < z) (sym a.as_many_old) (within old.types t x.0 x.1), subst (λ z. u < z) (sym a.as_many_new) (within new.types u y.0 y.1));
      }

  before : (m : List TypePair) → Alike old new m (suc k) → Includes m s.pairs
  before m b = a.forced m (alike_fewer old new m k (suc k) (omega arith) b)

  last : (m : List TypePair) → Alike old new m (suc k) → AlikeFound (IsPair m) (slice_get old.operations k) (slice_get new.operations k)
  last m b = b.operations k (omega arith)

  pub no_old_operation : slice_get old.operations k ≡ None → (m : List TypePair) → Alike old new m (suc k) → ⊥
  no_old_operation e m b = no_old_found (IsPair m) (slice_get old.operations k) (slice_get new.operations k) (last m b) e

  pub no_new_operation : slice_get new.operations k ≡ None → (m : List TypePair) → Alike old new m (suc k) → ⊥
  no_new_operation e m b = no_new_found (IsPair m) (slice_get old.operations k) (slice_get new.operations k) (last m b) e

  module _ (o q : Operation) (is_old : slice_get old.operations k ≡ Some o) (is_new : slice_get new.operations k ≡ Some q) where
    found : (m : List TypePair) → Alike old new m (suc k) → AlikeFound (IsPair m) (Some o) (Some q)
    found m b = subst (λ y. AlikeFound (IsPair m) (Some o) y) is_new (subst (λ x. AlikeFound (IsPair m) x (slice_get new.operations k)) is_old (last m b))

    pub other_operations : (r : Pairing) → Meets (λ m. AlikeFound (IsPair m) (Some o) (Some q)) s r false → (m : List TypePair) → Alike old new m (suc k) → ⊥
    other_operations r h m b = h m (possible m (suc k) b) (before m b) (found m b)

    module _ (r : Pairing) (h : HasMet (λ m. AlikeFound (IsPair m) (Some o) (Some q)) s r) where
      pub as_many : length r.forward ≡ length old.types
      as_many = h.as_many_old ∙ a.as_many_old

      pub expanded : AreExpanded old.types new.types r.pairs (length s.pairs)
      expanded = expanded_more old.types new.types s r (length s.pairs) h.added (omega arith) (all_expanded old.types new.types s.pairs (length s.pairs) a.alike.types)

      now : (m : List TypePair) → Alike old new m (suc k) → Includes m r.pairs
      now m b = h.forced m (before m b) (found m b)

      other_types : (z : Pairing) → Meets (AllAlike old.types new.types) r z false → (m : List TypePair) → Alike old new m (suc k) → ⊥
      other_types z f m b =
          let p : IsPossible s m = possible m (suc k) b in
          let known : (t u : ℕ) → IsPair m t u → (t < length r.forward) × (u < length r.backward) =
          λ t u g. (subst (λ n. t < n) (sym h.as_many_old) (p.known t u g).0, subst (λ n. u < n) (sym h.as_many_new) (p.known t u g).1) in
          f m (record { one_to_one = p.one_to_one; known = known }) (now m b) b.types

      all_types : (z : Pairing) → HasMet (AllAlike old.types new.types) r z → IsMatched old new (suc k) z
      all_types z f =
          record {
            paired = f.paired;
            as_many_old = f.as_many_old ∙ as_many;
            as_many_new = f.as_many_new ∙ h.as_many_new ∙ a.as_many_new;
            alike = record { one_to_one = one_to_one z f.paired; operations = λ i l. by i (either i l); types = f.met };
            forced = λ m b. f.forced m (now m b) b.types;
          }
        where
          either : (i : ℕ) → i < suc k → (i < k) ⊎ (i ≡ k)
          either i l = or_last i k l

          kept : (t u : ℕ) → IsPair r.pairs t u → IsPair z.pairs t u
          kept t u g = included z.pairs r.pairs (added_includes r z f.added) t u g

          kept' : (t u : ℕ) → IsPair s.pairs t u → IsPair z.pairs t u
          kept' t u g = kept t u (included r.pairs s.pairs (added_includes s r h.added) t u g)

          here : AlikeFound (IsPair z.pairs) (slice_get old.operations k) (slice_get new.operations k)
          here =
              subst (λ x. AlikeFound (IsPair z.pairs) x (slice_get new.operations k)) (sym is_old)
              (subst (λ y. AlikeFound (IsPair z.pairs) (Some o) y) (sym is_new) (found_grow (IsPair r.pairs) (IsPair z.pairs) kept (Some o) (Some q) h.met))

          by : (i : ℕ) → (i < k) ⊎ (i ≡ k) → AlikeFound (IsPair z.pairs) (slice_get old.operations i) (slice_get new.operations i)
          by i (inl l) = found_grow (IsPair s.pairs) (IsPair z.pairs) kept' (slice_get old.operations i) (slice_get new.operations i) (a.alike.operations i l)
          by i (inr e) = subst (λ n. AlikeFound (IsPair z.pairs) (slice_get old.operations n) (slice_get new.operations n)) (sym e) here

      pub matched : (z : Pairing) (ok : Bool) → Meets (AllAlike old.types new.types) r z ok → MatchesOne old new k z ok
      matched z true f = all_types z f
      matched z false f = other_types z f

-- ## All operations

pub first_other : (old new : Interface) (k : ℕ) (s : Pairing) → k < length old.operations → IsMatched old new k s → ((m : List TypePair) → Alike old new m (suc k) → ⊥)
    → IsFirst old new k
first_other old new k s l a f =
    record {
      is_there = l;
      differs = λ h. f h.0 h.1;
      earlier = λ j l'. (s.pairs, alike_fewer old new s.pairs (suc j) k (omega (arith, l')) a.alike);
    }

pub next_matched : (old new : Interface) (k : ℕ) (s : Pairing) → IsMatched old new (suc k) s → IsMatched old new (k + 1) s
next_matched old new k s a = let e : suc k ≡ k + 1 = omega arith in subst (λ n. IsMatched old new n s) e a

pub all_matched : (old new : Interface) (k : ℕ) (s : Pairing) → length old.operations ≤ k → IsMatched old new k s → Alike old new s.pairs (length old.operations)
all_matched old new k s l a = alike_fewer old new s.pairs (length old.operations) k l a.alike

pub one_true : (old new : Interface) (k : ℕ) (s : Pairing) (ok : Bool) → MatchesOne old new k s ok → ok ≡ true → IsMatched old new (suc k) s
one_true old new k s true a e = a
one_true old new k s false a e = cc

pub one_false : (old new : Interface) (k : ℕ) (s : Pairing) (ok : Bool) → MatchesOne old new k s ok → ok ≡ false → (m : List TypePair) → Alike old new m (suc k) → ⊥
one_false old new k s true a e = cc
one_false old new k s false a e = a

-- ## The answer

pub compared_differs : (old new : Interface) (k : ℕ) → HasAll old new → IsFirst old new k → IsFirstDifferent old new k
compared_differs old new k all f = record { all = all; first = f }

pub compared_alike : (old new : Interface) (m : List TypePair) → HasAll old new → Alike old new m (length old.operations) → IsAllAlike old new m
compared_alike old new m all a = record { all = all; alike = a }

pub streams_carried : (old new : Interface) (c : Compared) → IsCompared old new c → CarriesStreams old new c
streams_carried old new (compared.Yes m) a = λ n o is_old q is_new s order octets g.
    let l : n < length old.operations = slice_get_within old.operations n o is_old in (
      (λ r. let p = carried old new m (length old.operations) a.alike n l o q is_old is_new s order octets g r.represents r.conforms in record { represents = p.0; conforms = p.1 }),
      (λ r. let p = carried_back old new m (length old.operations) a.alike n l o q is_old is_new s order octets g r.represents r.conforms in record { represents = p.0; conforms = p.1 }),
    )
streams_carried old new compared.OtherUuid a = tt
streams_carried old new (compared.OtherMajor x y) a = tt
streams_carried old new (compared.OlderMinor x y) a = tt
streams_carried old new (compared.Fewer x y) a = tt
streams_carried old new (compared.Differs k) a = tt

pub partners_there : (old new : Interface) (c : Compared) → IsCompared old new c → HasPartners old c
partners_there old new (compared.Yes m) a = λ t need. needed_pair old new m (length old.operations) a.alike need
partners_there old new compared.OtherUuid a = tt
partners_there old new (compared.OtherMajor x y) a = tt
partners_there old new (compared.OlderMinor x y) a = tt
partners_there old new (compared.Fewer x y) a = tt
partners_there old new (compared.Differs k) a = tt

pub matched_some : (old new : Interface) (s : Pairing) (o : Option ℕ) (k : ℕ) → MatchesAll old new s o → o ≡ Some k → IsFirst old new k
matched_some old new s None k a e = cc
matched_some old new s (Some j) k a e = subst (λ x. IsFirst old new x) (same_Some j k e) a

pub matched_none : (old new : Interface) (s : Pairing) (o : Option ℕ) → MatchesAll old new s o → o ≡ None → Alike old new s.pairs (length old.operations)
matched_none old new s None a e = a
matched_none old new s (Some j) a e = cc
