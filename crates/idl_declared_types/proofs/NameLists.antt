-- The names of types as the program keeps them.
use Rattle.std.proofs.Common.{◌≡◌, ℕ, ◌+◌, ◌<◌, ◌≤◌, Bool, true, false, cond, ltb, List, [], ◌∷◌, ◌++◌, length, Some, None, option_map, is_some, refl, sym, ap, ◌∙◌, subst, arith}
use Rattle.std.specs.Str.{bytes_eq}
use Rattle.std.proofs.lemmas.Option.{none-some, same_Some, slice_get_within, slice_get-get_or}
use Rattle.std.proofs.lemmas.Bool.{ltb-true, lt-ltb, and_parts as both}
use Rattle.idl_scope.specs.Known.{found, put}
use Rattle.idl_declared_types.specs.declared.kinds.Kind.{Kind}
use Rattle.idl_rule_definitions.specs.Types.{IdlType, Void, or_void}
use Rattle.idl_declared_types.specs.Kinds.{seen_types, type_at, Stands, Keeps}
use Rattle.idl_declared_types.specs.SeenNames.{seen_names, are_within, and_name}
use Rattle.idl_declared_types.proofs.KindLists.{length-seen_types, type_at-stands}
use Rattle.idl_scope.proofs.Tables.{put_new}

-- a number of a type
pub stands_within : (ks : List Kind) (n : ℕ) → n < length ks → Stands ks n (type_at ks n)
stands_within ks n h =
    let is = slice_get-get_or (seen_types ks) n Void (omega (arith, length-seen_types ks)) in
    is ∙ ap Some (sym (ap or_void is))

pub within_stands : (ks : List Kind) (n : ℕ) (t : IdlType) → Stands ks n t → n < length ks
within_stands ks n t h = omega (arith, length-seen_types ks, slice_get_within (seen_types ks) n t h)

-- more kinds are more
pub le-keeps : (old new : List Kind) → Keeps old new → length old ≤ length new
le-keeps [] new h = omega arith
le-keeps (k ∷ old) new h =
    let last = stands_within (k ∷ old) (length old) (omega arith) in
    let there = within_stands new (length old) (type_at (k ∷ old) (length old)) (h (length old) (type_at (k ∷ old) (length old)) last) in
    omega arith

pub type_at-keeps : (old new : List Kind) (n : ℕ) → Keeps old new → n < length old → type_at new n ≡ type_at old n
type_at-keeps old new n h within = type_at-stands new n (type_at old n) (h n (type_at old n) (stands_within old n within))

pub found_seen : (ks : List Kind) (names : List (List ℕ × ℕ)) (name : List ℕ) → found name (seen_names ks names) ≡ option_map (type_at ks) (found name names)
found_seen ks [] name = refl
found_seen ks (e ∷ es) name = by (bytes_eq name e.0) (found_seen ks es name)
  where
    by : (b : Bool) → found name (seen_names ks es) ≡ option_map (type_at ks) (found name es)
        → cond b (Some (type_at ks e.1)) (found name (seen_names ks es)) ≡ option_map (type_at ks) (cond b (Some e.1) (found name es))
    by true h = refl
    by false h = h

pub found_within : (n : ℕ) (names : List (List ℕ × ℕ)) (name : List ℕ) (k : ℕ) → are_within n names ≡ true → found name names ≡ Some k → k < n
found_within n [] name k within h = absurd (none-some k h)
found_within n (e ∷ es) name k within h = by (bytes_eq name e.0) h (λ f. found_within n es name k (both (ltb e.1 n) (are_within n es) within).1 f)
  where
    by : (b : Bool) → cond b (Some e.1) (found name es) ≡ Some k → (found name es ≡ Some k → k < n) → k < n
    by true f more = subst (λ (j : ℕ). j < n) (same_Some e.1 k f) (ltb-true e.1 n (both (ltb e.1 n) (are_within n es) within).0)
    by false f more = more f

-- more kinds leave the names as they are
pub are_within-le : (n m : ℕ) (names : List (List ℕ × ℕ)) → n ≤ m → are_within n names ≡ true → are_within m names ≡ true
are_within-le n m [] le h = refl
are_within-le n m (e ∷ es) le h =
    let parts = both (ltb e.1 n) (are_within n es) h in
    let first = lt-ltb e.1 m (omega (arith, ltb-true e.1 n parts.0)) in
    let rest = are_within-le n m es le parts.1 in
    rw first rest

pub are_within-keeps : (old new : List Kind) (names : List (List ℕ × ℕ)) → Keeps old new → are_within (length old) names ≡ true → are_within (length new) names ≡ true
are_within-keeps old new names h within = are_within-le (length old) (length new) names (le-keeps old new h) within

pub seen_names-keeps : (old new : List Kind) (names : List (List ℕ × ℕ)) → Keeps old new → are_within (length old) names ≡ true → seen_names new names ≡ seen_names old names
seen_names-keeps old new [] h within = refl
seen_names-keeps old new (e ∷ es) h within =
    let parts = both (ltb e.1 (length old)) (are_within (length old) es) within in
    let first = type_at-keeps old new e.1 h (ltb-true e.1 (length old) parts.0) in
    let rest = seen_names-keeps old new es h parts.1 in
    ap (λ t. (e.0, t) ∷ seen_names new es) first ∙ ap (λ r. (e.0, type_at old e.1) ∷ r) rest

-- the number under a name
pub named_some : (ks : List Kind) (names : List (List ℕ × ℕ)) (name : List ℕ) (n : ℕ) → are_within (length ks) names ≡ true → found name names ≡ Some n
    → Stands ks n (or_void (found name (seen_names ks names)))
named_some ks names name n within h =
    let is : or_void (found name (seen_names ks names)) ≡ type_at ks n = ap or_void (found_seen ks names name ∙ ap (option_map (type_at ks)) h) in
    stands_within ks n (found_within (length ks) names name n within h) ∙ ap Some (sym is)

pub named_none : (ks : List Kind) (names : List (List ℕ × ℕ)) (name : List ℕ) → found name names ≡ None → or_void (found name (seen_names ks names)) ≡ Void
named_none ks names name h = ap or_void (found_seen ks names name ∙ ap (option_map (type_at ks)) h)

-- ## A name that is declared

pub and_name-there : (names : List (List ℕ × ℕ)) (name : List ℕ) (of n : ℕ) → found name names ≡ Some n → names ≡ and_name names name of
and_name-there names name of n h = sym (ap (λ o. elim (is_some o) [ true ↦ names | false ↦ names ++ (name, of) ∷ [] ]) h)

pub and_name-new : (names : List (List ℕ × ℕ)) (name : List ℕ) (of : ℕ) → found name names ≡ None → put names name of ≡ and_name names name of
and_name-new names name of h = put_new names name of h ∙ sym (ap (λ o. elim (is_some o) [ true ↦ names | false ↦ names ++ (name, of) ∷ [] ]) h)
