-- What the numbers of a table name.
-- `m` and `n` are numbers, `b` is a test of them, `k` what is known of a number, `map` a table, `old` and `new` are those before and after a call.
use Rattle.std.proofs.Common.{◌≡◌, ◌≢◌, ℕ, Bool, true, false, cond, nat_eq, if◌then◌else◌, List, [], ◌∷◌, ◌++◌, Option, Some, None, Ok, Err, option_map, refl, sym, ap, ◌∙◌, subst, arith}
use Rattle.std.proofs.lemmas.Bool.Decides.{nat_tests}
use Rattle.std.proofs.lemmas.Option.{same_Some}
use Rattle.nd_types.specs.declared.types.TypeId.{TypeId}
use Rattle.nd_value.specs.declared.value.CellId.{CellId}
use Rattle.ndr_refs.specs.declared.referents.Known.{Known}
use Rattle.ndr_refs.specs.declared.referents.RefFault.{RefFault}
use Rattle.ndr_refs.specs.declared.referents.RefFault.TheVariants as fault
use Rattle.ndr_refs.specs.Known.{known, first_met, once_represented, represented, IsKnown, IsMet, IsMetBy}
use Rattle.ndr_refs.specs.Naming.{cell_of, HasMet, IsOneToOne, IsUnnamed}

equal : (m n : ℕ) → nat_eq m n ≡ true → m ≡ n
equal m n e = grind (arith, nat_tests)

itself : (n : ℕ) → nat_eq n n ≡ true
itself n = grind (arith, nat_tests)

apart : (m n : ℕ) → m ≢ n → nat_eq m n ≡ false
apart m n other = by (nat_eq m n) refl
  where
    by : (b : Bool) → nat_eq m n ≡ b → b ≡ false
    by true e = absurd (other (equal m n e))
    by false e = refl

differ : (m n : ℕ) → nat_eq m n ≡ false → m ≢ n
differ m n e same = let t : nat_eq m n ≡ true = subst (λ u. nat_eq m u ≡ true) same (itself m) in cc

abbrev cell : Option Known → Option CellId
cell o = option_map (λ k. k.cell) o

-- ## A number more

added_here : (n : ℕ) (k : Known) (map : List (ℕ × Known)) → known n map ≡ None → known n (map ++ (n, k) ∷ []) ≡ Some k
added_here n k [] e = ap (λ b. cond b (Some k) None) (itself n)
added_here n k (x ∷ map) e = by (nat_eq n x.0) e (added_here n k map)
  where
    by : (b : Bool) → cond b (Some x.1) (known n map) ≡ None → (known n map ≡ None → known n (map ++ (n, k) ∷ []) ≡ Some k)
        → cond b (Some x.1) (known n (map ++ (n, k) ∷ [])) ≡ Some k
    by true h later = cc
    by false h later = later h

added_elsewhere : (m n : ℕ) (k : Known) (map : List (ℕ × Known)) → m ≢ n → known m (map ++ (n, k) ∷ []) ≡ known m map
added_elsewhere m n k [] other = ap (λ b. cond b (Some k) None) (apart m n other)
added_elsewhere m n k (x ∷ map) other = ap (λ o. cond (nat_eq m x.0) (Some x.1) o) (added_elsewhere m n k map other)

-- ## Numbers that are met

module _ (n : ℕ) (of : TypeId) (next c : CellId) (old new : List (ℕ × Known)) where
  has_met_by : (o : Option Known) → known n old ≡ o → IsMetBy o n of next old (Ok c) new → HasMet n c old new
  has_met_by None e h = record {
    here = ap (cell_of n) h.1 ∙ ap cell (added_here n (first_met of next) old e) ∙ ap (λ u. Some u) (sym h.0);
    others = λ m other. ap (cell_of m) h.1 ∙ ap cell (added_elsewhere m n (first_met of next) old other);
  }
  has_met_by (Some k) e h = record {
    here = ap (cell_of n) h.1 ∙ ap cell e ∙ ap (λ u. Some u) (sym h.0.1);
    others = λ m other. ap (cell_of m) h.1;
  }

  pub has_met : IsMet n of next old (Ok c) new → HasMet n c old new
  has_met h = has_met_by (known n old) refl h

  one_by : (o : Option Known) → known n old ≡ o → IsMetBy o n of next old (Ok c) new → IsOneToOne old → IsUnnamed next old → IsOneToOne new
  one_by (Some k) e h one free a b x p q = one a b x (ap (cell_of a) (sym h.1) ∙ p) (ap (cell_of b) (sym h.1) ∙ q)
  one_by None e h one free a b x p q = go (nat_eq a n) (nat_eq b n) refl refl
    where
      met : HasMet n c old new
      met = has_met_by None e h

      -- the number that was met names the next cell, which no other number names
      clash : (m : ℕ) → m ≢ n → cell_of n new ≡ Some x → cell_of m new ≡ Some x → ⊥
      clash m other here there =
          let same : x ≡ next = same_Some _ _ (sym here ∙ met.here) ∙ h.0 in
          free m (sym (met.others m other) ∙ there ∙ ap (λ u. Some u) same)

      go : (s t : Bool) → nat_eq a n ≡ s → nat_eq b n ≡ t → a ≡ b
      go true true f g = equal a n f ∙ sym (equal b n g)
      go true false f g = absurd (clash b (differ b n g) (ap (λ u. cell_of u new) (sym (equal a n f)) ∙ p) q)
      go false true f g = absurd (clash a (differ a n f) (ap (λ u. cell_of u new) (sym (equal b n g)) ∙ q) p)
      go false false f g =
          one a b x (sym (met.others a (differ a n f)) ∙ p) (sym (met.others b (differ b n g)) ∙ q)

  pub one_to_one : IsMet n of next old (Ok c) new → IsOneToOne old → IsUnnamed next old → IsOneToOne new
  one_to_one h one free = one_by (known n old) refl h one free

-- where a number is refused, or memory is, nothing changes
pub unchanged : (n : ℕ) (of : TypeId) (next : CellId) (e : RefFault) (old new : List (ℕ × Known)) → IsMet n of next old (Err e) new → new ≡ old
unchanged n of next e old new h = by (known n old) e h
  where
    by : (o : Option Known) (e : RefFault) → IsMetBy o n of next old (Err e) new → new ≡ old
    by None fault.Memory h = h
    by None (fault.OtherType first second) h = absurd h
    by (Some k) e h = h.1

-- a number that names a cell is known
pub is_known : (n : ℕ) (map : List (ℕ × Known)) (c : CellId) → cell_of n map ≡ Some c → IsKnown n map
is_known n map c e = by (known n map) refl e
  where
    by : (o : Option Known) → known n map ≡ o → cell o ≡ Some c → IsKnown n map
    by None is h = cc
    by (Some k) is h = (k, is)

-- ## Turns

pub as_before : (n : ℕ) (map : List (ℕ × Known)) (m : ℕ) → cell_of m (represented n map) ≡ cell_of m map
as_before n [] m = refl
as_before n (x ∷ map) m = by (nat_eq n x.0) (as_before n map m)
  where
    first : (b : Bool) → cell (cond b (Some (once_represented x.1)) (known m map)) ≡ cell (cond b (Some x.1) (known m map))
    first true = refl
    first false = refl

    later : (b : Bool) → cell_of m (represented n map) ≡ cell_of m map → cell (cond b (Some x.1) (known m (represented n map))) ≡ cell (cond b (Some x.1) (known m map))
    later true e = refl
    later false e = e

    by : (b : Bool) → cell_of m (represented n map) ≡ cell_of m map → cell_of m (if b then (x.0, once_represented x.1) ∷ map else x ∷ represented n map) ≡ cell_of m (x ∷ map)
    by true e = first (nat_eq m x.0)
    by false e = later (nat_eq m x.0) e
