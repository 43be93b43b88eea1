-- Two interfaces have one answer: at most one, and not none.
use Rattle.std.proofs.Common.{arith, ◌≡◌, ℕ, ◌<◌, ◌≤◌, zero, suc, Bool, true, false, eqb, ltb, List, [], Option, Some, None, refl, ap, sym, ◌∙◌, subst, length, inl, inr, ◌⊎◌}
use Rattle.std.proofs.lemmas.Bool.{eqb-true, eqb-false, ltb-true, ltb-false}
use Rattle.nd_types.specs.declared.interface.Interface.{Interface}
use Rattle.idl_compat.specs.declared.pairs.TypePair.{TypePair}
use Rattle.idl_compat.specs.declared.compared.Compared.{Compared}
use Rattle.idl_compat.specs.declared.compared.Compared.TheVariants.{Yes, OtherUuid, OtherMajor, OlderMinor, Fewer, Differs}
use Rattle.idl_compat.specs.Comparison.{IsPair, Alike, IsOneUuid, AreAlike, IsNewer, HasAll, IsOtherMajor, IsOlderMinor, IsFewer, IsFirst, IsFirstDifferent, IsAllAlike, IsCompared, IsOneAnswer}
use Rattle.idl_compat.proofs.Growing.{alike_fewer}

raised : (i k : ℕ) → (i < k) ⊎ ((i ≡ k) ⊎ (k < i)) → (suc i < suc k) ⊎ ((suc i ≡ suc k) ⊎ (suc k < suc i))
raised i k (inl l) = inl (omega (arith, l))
raised i k (inr (inl e)) = inr (inl (ap suc e))
raised i k (inr (inr l)) = inr (inr (omega (arith, l)))

which : (i k : ℕ) → (i < k) ⊎ ((i ≡ k) ⊎ (k < i))
which zero zero = inr (inl refl)
which zero (suc k) = inl (omega arith)
which (suc i) zero = inr (inr (omega arith))
which (suc i) (suc k) = raised i k (which i k)

module _ (old new : Interface) where
  not_major : (a b : ℕ) → IsOtherMajor old new a b → old.major ≡ new.major → ⊥
  not_major a b k e = k.differ (k.is_old ∙ e ∙ sym k.is_new)

  not_minor : (a b : ℕ) → IsOlderMinor old new a b → old.minor ≤ new.minor → ⊥
  not_minor a b k l =
      let less : b < a = k.less in
      let e : a ≡ old.minor = k.is_old in
      let f : b ≡ new.minor = k.is_new in
      omega (arith, less, e, f, l)

  not_fewer : (a b : ℕ) → IsFewer old new a b → length old.operations ≤ length new.operations → ⊥
  not_fewer a b k l =
      let less : b < a = k.less in
      let e : a ≡ length old.operations = k.is_old in
      let f : b ≡ length new.operations = k.is_new in
      omega (arith, less, e, f, l)

  not_first : (k : ℕ) → IsFirst old new k → (n : ℕ) → k < n → AreAlike old new n → ⊥
  not_first k f n l a = f.differs (a.0, alike_fewer old new a.0 (suc k) n (omega (arith, l)) a.1)

  firsts : (j k : ℕ) → IsFirst old new j → IsFirst old new k → j ≡ k
  firsts j k a b = by (which j k)
    where
      by : (j < k) ⊎ ((j ≡ k) ⊎ (k < j)) → j ≡ k
      by (inl l) = absurd (a.differs (b.earlier j l))
      by (inr (inl e)) = e
      by (inr (inr l)) = absurd (b.differs (a.earlier k l))

  pub same : (c d : Compared) → IsCompared old new c → IsCompared old new d → IsOneAnswer c d
  same (Yes m) (Yes n) a b = tt
  same (Yes m) OtherUuid a b = absurd (b a.all.newer.uuid)
  same (Yes m) (OtherMajor x y) a b = absurd (not_major x y b a.all.newer.major)
  same (Yes m) (OlderMinor x y) a b = absurd (not_minor x y b a.all.newer.minor)
  same (Yes m) (Fewer x y) a b = absurd (not_fewer x y b a.all.operations)
  same (Yes m) (Differs k) a b = absurd (not_first k b.first (length old.operations) b.first.is_there (m, a.alike))
  same OtherUuid (Yes n) a b = absurd (a b.all.newer.uuid)
  same OtherUuid OtherUuid a b = tt
  same OtherUuid (OtherMajor x y) a b = absurd (a b.uuid)
  same OtherUuid (OlderMinor x y) a b = absurd (a b.uuid)
  same OtherUuid (Fewer x y) a b = absurd (a b.newer.uuid)
  same OtherUuid (Differs k) a b = absurd (a b.all.newer.uuid)
  same (OtherMajor x y) (Yes n) a b = absurd (not_major x y a b.all.newer.major)
  same (OtherMajor x y) OtherUuid a b = absurd (b a.uuid)
  same (OtherMajor x y) (OtherMajor z w) a b = (a.is_old ∙ sym b.is_old, a.is_new ∙ sym b.is_new)
  same (OtherMajor x y) (OlderMinor z w) a b = absurd (not_major x y a b.major)
  same (OtherMajor x y) (Fewer z w) a b = absurd (not_major x y a b.newer.major)
  same (OtherMajor x y) (Differs k) a b = absurd (not_major x y a b.all.newer.major)
  same (OlderMinor x y) (Yes n) a b = absurd (not_minor x y a b.all.newer.minor)
  same (OlderMinor x y) OtherUuid a b = absurd (b a.uuid)
  same (OlderMinor x y) (OtherMajor z w) a b = absurd (not_major z w b a.major)
  same (OlderMinor x y) (OlderMinor z w) a b = (a.is_old ∙ sym b.is_old, a.is_new ∙ sym b.is_new)
  same (OlderMinor x y) (Fewer z w) a b = absurd (not_minor x y a b.newer.minor)
  same (OlderMinor x y) (Differs k) a b = absurd (not_minor x y a b.all.newer.minor)
  same (Fewer x y) (Yes n) a b = absurd (not_fewer x y a b.all.operations)
  same (Fewer x y) OtherUuid a b = absurd (b a.newer.uuid)
  same (Fewer x y) (OtherMajor z w) a b = absurd (not_major z w b a.newer.major)
  same (Fewer x y) (OlderMinor z w) a b = absurd (not_minor z w b a.newer.minor)
  same (Fewer x y) (Fewer z w) a b = (a.is_old ∙ sym b.is_old, a.is_new ∙ sym b.is_new)
  same (Fewer x y) (Differs k) a b = absurd (not_fewer x y a b.all.operations)
  same (Differs j) (Yes n) a b = absurd (not_first j a.first (length old.operations) a.first.is_there (n, b.alike))
  same (Differs j) OtherUuid a b = absurd (b a.all.newer.uuid)
  same (Differs j) (OtherMajor z w) a b = absurd (not_major z w b a.all.newer.major)
  same (Differs j) (OlderMinor z w) a b = absurd (not_minor z w b a.all.newer.minor)
  same (Differs j) (Fewer z w) a b = absurd (not_fewer z w b a.all.operations)
  same (Differs j) (Differs k) a b = firsts j k a.first b.first

  -- ## Not none

  no_pairs : Alike old new [] 0
  no_pairs =
      record {
        one_to_one = record { new = λ t u v h h'. absurd h; old = λ t u v h h'. absurd h; basic = λ t u h l. absurd h };
        operations = λ i l. absurd (omega (arith, l));
        types = λ t u h. absurd h;
      }

  pub not_none : ((c : Compared) → IsCompared old new c → ⊥) → ⊥
  not_none f = f OtherUuid (λ u. majors u (eqb old.major new.major) refl)
    where
      alike : HasAll old new → (n : ℕ) → n ≤ length old.operations → (AreAlike old new n → ⊥) → ⊥
      alike all zero l h = h ([], no_pairs)
      alike all (suc n) l h =
          alike all n (omega (arith, l)) (λ a. f (Differs n) (record {
            all = all;
            first = record {
              is_there = omega (arith, l);
              differs = h;
              earlier = λ j l'. (a.0, alike_fewer old new a.0 (suc j) n (omega (arith, l')) a.1);
            };
          }))

      counts : IsNewer old new → (b : Bool) → ltb (length new.operations) (length old.operations) ≡ b → ⊥
      counts newer true e =
          f (Fewer (length old.operations) (length new.operations))
          (record { newer = newer; is_old = refl; is_new = refl; less = ltb-true (length new.operations) (length old.operations) e })
      counts newer false e =
          let all : HasAll old new = record { newer = newer; operations = ltb-false (length new.operations) (length old.operations) e } in
          alike all (length old.operations) (omega arith) (λ a. f (Yes a.0) (record { all = all; alike = a.1 }))

      minors : IsOneUuid old.uuid new.uuid → old.major ≡ new.major → (b : Bool) → ltb new.minor old.minor ≡ b → ⊥
      minors u m true e =
          f (OlderMinor old.minor new.minor) (record { uuid = u; major = m; is_old = refl; is_new = refl; less = ltb-true new.minor old.minor e })
      minors u m false e =
          counts (record { uuid = u; major = m; minor = ltb-false new.minor old.minor e }) (ltb (length new.operations) (length old.operations)) refl

      majors : IsOneUuid old.uuid new.uuid → (b : Bool) → eqb old.major new.major ≡ b → ⊥
      majors u true e = minors u (eqb-true old.major new.major e) (ltb new.minor old.minor) refl
      majors u false e = f (OtherMajor old.major new.major) (record { uuid = u; is_old = refl; is_new = refl; differ = eqb-false old.major new.major e })
