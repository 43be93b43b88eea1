-- The numbers that the parameters are given are their numbers among the roots.
-- `items` are the numbers given so far, `j` is a parameter's index, `n` a root's number.
use Rattle.std.proofs.Common.{◌≡◌, ◌∙◌, ℕ, zero, suc, ◌+◌, ◌<◌, Bool, true, false, List, [], ◌∷◌, length, Option, Some, None, refl, ap, sym, map, arith, replicate, get_or}
use Rattle.std.specs.Prelude.{eqb, slice_set}
use Rattle.std.specs.List.{slice_get}
use Rattle.std.proofs.lemmas.Bool.{eqb-true, eqb-false}
use Rattle.std.proofs.lemmas.List.{length-replicate}
use Rattle.std.proofs.lemmas.Option.{slice_get-get_or}
use Rattle.nd_types.specs.declared.types.Operation.{Operation}
use Rattle.nd_types.specs.declared.types.Side.{Side}
use Rattle.nd_types.specs.Table.{Table}
use Rattle.nd_types.specs.Roots.{Root, roots_of, root_index, NamedRoot, named_root, named_roots}
use Rattle.ndr_plan.specs.Numbers.{found, number_in, kept, numbered, all_numbered, AreNumbers}
use Rattle.ndr_plan.proofs.OwnParams.{IsOwn, AreOwn, roots_own}

-- the first number, if there is one, else the second
abbrev pub or_later : Option ℕ → Option ℕ → Option ℕ
or_later (Some n) later = Some n
or_later None later = later

-- a number that is set is found there, and any other as before
set_here : (items : List (Option ℕ)) (i : ℕ) (x : Option ℕ) → i < length items → slice_get (slice_set items i x) i ≡ Some x
set_here [] i x h = absurd (omega (arith, h))
set_here (y ∷ items) zero x h = refl
set_here (y ∷ items) (suc i) x h = let k : i < length items = omega (arith, h) in set_here items i x k

set_other : (items : List (Option ℕ)) (i j : ℕ) (x : Option ℕ) → (i ≡ j → ⊥) → slice_get (slice_set items i x) j ≡ slice_get items j
set_other [] i j x h = refl
set_other (y ∷ items) zero zero x h = absurd (h refl)
set_other (y ∷ items) zero (suc j) x h = refl
set_other (y ∷ items) (suc i) zero x h = refl
set_other (y ∷ items) (suc i) (suc j) x h = set_other items i j x (λ e. h (ap suc e))

set_length : (items : List (Option ℕ)) (i : ℕ) (x : Option ℕ) → length (slice_set items i x) ≡ length items
set_length [] i x = refl
set_length (y ∷ items) zero x = refl
set_length (y ∷ items) (suc i) x = ap suc (set_length items i x)

later_none : (x : Option ℕ) → or_later x None ≡ x
later_none (Some n) = refl
later_none None = refl

later_twice : (x : Option ℕ) (n : ℕ) (later : Option ℕ) (b : Bool)
    → or_later (or_later x (elim b [ true ↦ Some n | false ↦ None ])) later ≡ or_later x (elim b [ true ↦ Some n | false ↦ later ])
later_twice (Some m) n later true = refl
later_twice (Some m) n later false = refl
later_twice None n later true = refl
later_twice None n later false = refl

kept_length : (items : List (Option ℕ)) (i n : ℕ) (was : Option (Option ℕ)) → length (kept items i n was) ≡ length items
kept_length items i n None = refl
kept_length items i n (Some (Some m)) = refl
kept_length items i n (Some None) = set_length items i (Some n)

kept_in : (items : List (Option ℕ)) (i n j : ℕ) → i < length items → (was : Option (Option ℕ)) → slice_get items i ≡ was → (b : Bool) → eqb i j ≡ b
    → number_in (kept items i n was) j ≡ or_later (number_in items j) (elim b [ true ↦ Some n | false ↦ None ])
kept_in items i n j h None e b t = let there : slice_get items i ≡ Some (get_or items i None) = slice_get-get_or items i None h in cc
kept_in items i n j h (Some (Some m)) e true t =
    let there : slice_get items j ≡ Some (Some m) = ap (slice_get items) (sym (eqb-true i j t)) ∙ e in
    ap found there ∙ sym (ap (λ o. or_later (found o) (Some n)) there)
kept_in items i n j h (Some (Some m)) e false t = sym (later_none (number_in items j))
kept_in items i n j h (Some None) e true t =
    let there : slice_get items j ≡ Some None = ap (slice_get items) (sym (eqb-true i j t)) ∙ e in
    ap (λ k. number_in (slice_set items i (Some n)) k) (sym (eqb-true i j t)) ∙ ap found (set_here items i (Some n) h)
    ∙ sym (ap (λ o. or_later (found o) (Some n)) there)
kept_in items i n j h (Some None) e false t = ap found (set_other items i j (Some n) (eqb-false i j t)) ∙ sym (later_none (number_in items j))

-- one more root
one_more : (o : Operation) (j n : ℕ) (items : List (Option ℕ)) (rest : List NamedRoot) (later : Option ℕ)
    → ((others : List (Option ℕ)) → length others ≡ length o.params → number_in (all_numbered others (n + 1) rest) j ≡ or_later (number_in others j) later)
    → length items ≡ length o.params → (param : Option ℕ) → IsOwn o param
    → number_in (all_numbered (numbered items param n) (n + 1) rest) j
    ≡ or_later (number_in items j) (elim param [ None ↦ later | Some k ↦ elim (eqb k j) [ true ↦ Some n | false ↦ later ] ])
one_more o j n items rest later ih len None own = ih items len
one_more o j n items rest later ih len (Some k) own =
    let below : k < length items = omega (arith, len, own) in
    ih (numbered items (Some k) n) (kept_length items k n (slice_get items k) ∙ len)
    ∙ ap (λ x. or_later x later) (kept_in items k n j below (slice_get items k) refl (eqb k j) refl)
    ∙ later_twice (number_in items j) n later (eqb k j)

numbers_are : (o : Operation) (j : ℕ) (rs : List Root) (items : List (Option ℕ)) (n : ℕ) → length items ≡ length o.params → AreOwn o rs
    → number_in (all_numbered items n (map (named_root o) rs)) j ≡ or_later (number_in items j) (root_index rs j n)
numbers_are o j [] items n len own = sym (later_none (number_in items j))
numbers_are o j (r ∷ rs) items n len own =
    one_more o j n items (map (named_root o) rs) (root_index rs j (n + 1)) (λ others e. numbers_are o j rs others (n + 1) e own.2) len r.param own.1

-- no parameter has a number at first
none_yet : (k j : ℕ) → number_in (replicate {A = Option ℕ} k None) j ≡ None
none_yet zero j = refl
none_yet (suc k) zero = refl
none_yet (suc k) (suc j) = none_yet k j

-- the numbers that are given are those among the roots
pub are_numbers : (types : Table) (s : Side) (o : Operation)
    → AreNumbers (roots_of types s o) (all_numbered (replicate {A = Option ℕ} (length o.params) None) 0 (named_roots types s o))
are_numbers types s o j =
    numbers_are o j (roots_of types s o) (replicate {A = Option ℕ} (length o.params) None) 0 (length-replicate (length o.params) None) (roots_own types s o)
    ∙ ap (λ x. or_later x (root_index (roots_of types s o) j 0)) (none_yet (length o.params) j)
