-- Places in lists of arms and of roots.
-- `xs` is a list, `x` and `y` are items of it, `i` and `k` places, `d` a default.
use Rattle.std.proofs.Common.{◌≡◌, ◌⊎◌, inl, inr, ℕ, zero, suc, ◌+◌, ◌<◌, ◌≤◌, List, [], ◌∷◌, ◌++◌, length, Option, Some, None, is_some, true, false, refl, ap, arith}
use Rattle.std.specs.List.{slice_get}
use Rattle.std.specs.Prelude.{option_to_list, sum_by}
use Rattle.std.proofs.lemmas.List.Sums.{sum_by-cons}
use Rattle.std.proofs.lemmas.Option.{same_Some}
use Rattle.nd_types.specs.declared.types.Arm.{Arm}
use Rattle.nd_types.specs.declared.types.TypeDef.{TypeDef}
use Rattle.nd_types.specs.declared.TheConstants.{MEMBER_LIMIT}
use Rattle.nd_types.specs.Legal.{part_count}
use Rattle.library_types.specs.Parts.{IsLabelledAt, HasNoLabel, IsSelectedAt}

-- ## Sums

one_of_sum : {A : Type 0} (f : A → ℕ) (xs : List A) (i : ℕ) (x : A) → slice_get xs i ≡ Some x → f x ≤ sum_by f xs
one_of_sum f [] i x e = cc
one_of_sum f (y ∷ xs) zero x e =
    let same : f y ≡ f x = ap f (same_Some _ _ e) in
    let all : sum_by f (y ∷ xs) ≡ f y + sum_by f xs = sum_by-cons f y xs in
    omega (arith, same, all)
one_of_sum f (y ∷ xs) (suc i) x e =
    let rest : f x ≤ sum_by f xs = one_of_sum f xs i x e in
    let all : sum_by f (y ∷ xs) ≡ f y + sum_by f xs = sum_by-cons f y xs in
    omega (arith, rest, all)

-- a type of a legal table has no more parts than all
pub few_parts_of : (types : List TypeDef) (i : ℕ) (d : TypeDef) → slice_get types i ≡ Some d → sum_by part_count types ≤ MEMBER_LIMIT → part_count d ≤ MEMBER_LIMIT
few_parts_of types i d there few = let one : part_count d ≤ sum_by part_count types = one_of_sum part_count types i d there in omega (arith, one, few)

-- ## Arms

pub arm_before : (xs : List Arm) (d : Option Arm) (k : ℕ) → k < length xs → slice_get (xs ++ option_to_list d) k ≡ slice_get xs k
arm_before [] d k low = absurd (omega (arith, low))
arm_before (x ∷ xs) d zero low = refl
arm_before (x ∷ xs) d (suc k) low = arm_before xs d k (omega (arith, low))

none_there : (xs : List Arm) (k : ℕ) → xs ≡ [] → slice_get xs k ≡ None
none_there [] zero is = refl
none_there [] (suc k) is = refl
none_there (x ∷ xs) k is = cc

pub arm_after : (xs : List Arm) (d : Option Arm) (k : ℕ) → length xs < k → slice_get (xs ++ option_to_list d) k ≡ None
arm_after [] None k past = none_there [] k refl
arm_after [] (Some a) zero past = absurd (omega (arith, past))
arm_after [] (Some a) (suc k) past = none_there [] k refl
arm_after (x ∷ xs) d zero past = absurd (omega (arith, past))
arm_after (x ∷ xs) d (suc k) past = arm_after xs d k (omega (arith, past))

pub arm_last : (xs : List Arm) (d : Option Arm) (k : ℕ) → k ≡ length xs → slice_get (xs ++ option_to_list d) k ≡ d
arm_last [] None zero is = refl
arm_last [] (Some a) zero is = refl
arm_last [] d (suc k) is = cc
arm_last (x ∷ xs) d zero is = cc
arm_last (x ∷ xs) d (suc k) is = arm_last xs d k (omega (arith, is))

pub ruleset arms = (arm_before, arm_after, arm_last)

-- ## The arm that a tag selects

pub labelled_selected : (arms : List Arm) (d : Option Arm) (u k : ℕ) → IsLabelledAt arms u k → IsSelectedAt arms d u k
labelled_selected labels d u k h = inl h

pub default_selected : (arms : List Arm) (d : Option Arm) (u k : ℕ) → HasNoLabel arms u → is_some d ≡ true → k ≡ length arms → IsSelectedAt arms d u k
default_selected labels d u k none some last = inr (none, some, last)

pub nothing_selected : (arms : List Arm) (d : Option Arm) (u : ℕ) → HasNoLabel arms u → is_some d ≡ false → HasNoLabel arms u × (d ≡ None)
nothing_selected labels None u none absent = (none, refl)
nothing_selected labels (Some a) u none absent = cc

pub ruleset selections = (labelled_selected, default_selected, nothing_selected)
