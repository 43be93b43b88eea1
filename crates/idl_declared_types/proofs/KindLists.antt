-- Lists of kinds and their types.
use Rattle.std.proofs.Common.{◌≡◌, ℕ, zero, suc, ◌+◌, Bool, true, false, ltb, List, [], ◌∷◌, ◌++◌, length, get_or, Option, Some, None, slice_get, refl, sym, ap, ◌∙◌, subst, arith, length-append}
use Rattle.std.proofs.lemmas.Option.{none-some, slice_get-get_or, same_Some}
use Rattle.std.proofs.lemmas.Bool.{ltb-true, and_parts as both}
use Rattle.std.specs.List.{list_any}
use Rattle.std.specs.Bool.{if◌then◌else◌}
use Rattle.indexmap.specs.IndexSet.{insert_key}
use Rattle.idl_declared_types.specs.declared.kinds.Kind.{Kind}
use Rattle.idl_declared_types.specs.declared.kinds.Kind.TheVariants as kind
use Rattle.idl_rule_definitions.specs.Types.{IdlType, Void, or_void}
use Rattle.idl_declared_types.specs.Kinds.{type_by, types_from, seen_types, is_inside, are_ordered, type_at, Stands, Keeps}

pub slice_get_kept : {X : Type 0} (xs ys : List X) (n : ℕ) (x : X) → slice_get xs n ≡ Some x → slice_get (xs ++ ys) n ≡ Some x
slice_get_kept [] ys n x h = absurd (none-some x h)
slice_get_kept (y ∷ xs) ys zero x h = h
slice_get_kept (y ∷ xs) ys (suc n) x h = slice_get_kept xs ys n x h

pub slice_get_last : {X : Type 0} (xs : List X) (x : X) → slice_get (xs ++ x ∷ []) (length xs) ≡ Some x
slice_get_last [] x = refl
slice_get_last (y ∷ xs) x = slice_get_last xs x

-- types that are known stay
pub kept_from : (ks : List Kind) (done : List IdlType) (n : ℕ) (t : IdlType) → slice_get done n ≡ Some t → slice_get (types_from done ks) n ≡ Some t
kept_from [] done n t h = h
kept_from (k ∷ ks) done n t h = kept_from ks (done ++ type_by done k ∷ []) n t (slice_get_kept done (type_by done k ∷ []) n t h)

inner_kept : (ks : List Kind) (done : List IdlType) (e : ℕ) → ltb e (length done) ≡ true → slice_get (types_from done ks) e ≡ slice_get done e
inner_kept ks done e h =
    let is = slice_get-get_or done e (type_by done kind.Void) (ltb-true e (length done) h) in
    kept_from ks done e (get_or done e (type_by done kind.Void)) is ∙ sym is

-- the same with the inner type as it was looked up
type_with : Option IdlType → Kind → IdlType
type_with o k = type_by (or_void o ∷ []) k

-- a kind over types that are known has its type also over more of them
pub type_by_kept : (k : Kind) (ks : List Kind) (done : List IdlType) → is_inside (length done) k ≡ true → type_by (types_from done ks) k ≡ type_by done k
type_by_kept kind.Void ks done h = refl
type_by_kept kind.Handle ks done h = refl
type_by_kept kind.ContextHandle ks done h = refl
type_by_kept (kind.Basic number) ks done h = refl
type_by_kept (kind.Struct file at) ks done h = refl
type_by_kept (kind.Union file at) ks done h = refl
type_by_kept (kind.Enum file at) ks done h = refl
type_by_kept (kind.Array e count varying) ks done h = rw (inner_kept ks done e h) refl
type_by_kept (kind.Text e count) ks done h = rw (inner_kept ks done e h) refl
type_by_kept (kind.Pointer class e) ks done h = rw (inner_kept ks done e h) refl
type_by_kept (kind.Pipe e) ks done h = rw (inner_kept ks done e h) refl

-- one more kind
pub types_from-push : (ks : List Kind) (done : List IdlType) (k : Kind) → types_from done (ks ++ k ∷ []) ≡ types_from done ks ++ type_by (types_from done ks) k ∷ []
types_from-push [] done k = refl
types_from-push (x ∷ ks) done k = types_from-push ks (done ++ type_by done x ∷ []) k

pub length-types_from : (ks : List Kind) (done : List IdlType) → length (types_from done ks) ≡ length done + length ks
length-types_from [] done = omega arith
length-types_from (k ∷ ks) done = omega (arith, length-types_from ks (done ++ type_by done k ∷ []), length-append done (type_by done k ∷ []))

pub length-seen_types : (ks : List Kind) → length (seen_types ks) ≡ length ks
unfolding seen_types
length-seen_types ks = omega (arith, length-types_from ks [])

-- what is in ordered kinds, by its number
at_from : (ks : List Kind) (done : List IdlType) (n i m : ℕ) (k : Kind) → n ≡ length done → m ≡ n + i → are_ordered n ks ≡ true → slice_get ks i ≡ Some k
    → (slice_get (types_from done ks) m ≡ Some (type_by (types_from done ks) k)) × (is_inside m k ≡ true)
at_from [] done n i m k size place ordered h = absurd (none-some k h)
at_from (x ∷ ks) done n zero m k size place ordered h =
    let inside = (both (is_inside n x) (are_ordered (suc n) ks) ordered).0 in
    let same = same_Some x k h in
    let more = done ++ type_by done x ∷ [] in
    let here : m ≡ n = omega arith in
    let last : slice_get more m ≡ Some (type_by done x) = subst (λ (j : ℕ). slice_get more j ≡ Some (type_by done x)) (sym size ∙ sym here) (slice_get_last done (type_by done x)) in
    let kept = type_by_kept x (x ∷ ks) done (subst (λ (j : ℕ). is_inside j x ≡ true) size inside) in
    subst (λ (z : Kind). (slice_get (types_from more ks) m ≡ Some (type_by (types_from more ks) z)) × (is_inside m z ≡ true)) same
    (kept_from ks more m (type_by done x) last ∙ ap Some (sym kept), subst (λ (j : ℕ). is_inside j x ≡ true) (sym here) inside)
at_from (x ∷ ks) done n (suc i) m k size place ordered h =
    at_from ks (done ++ type_by done x ∷ []) (suc n) i m k (omega (arith, length-append done (type_by done x ∷ []))) (omega arith) (both (is_inside n x) (are_ordered (suc n) ks) ordered).1 h

pub stands_at : (ks : List Kind) (i : ℕ) (k : Kind) → are_ordered 0 ks ≡ true → slice_get ks i ≡ Some k → Stands ks i (type_by (seen_types ks) k)
unfolding seen_types
stands_at ks i k ordered h = (at_from ks [] 0 i i k refl (omega arith) ordered h).0

pub inside_at : (ks : List Kind) (i : ℕ) (k : Kind) → are_ordered 0 ks ≡ true → slice_get ks i ≡ Some k → is_inside i k ≡ true
inside_at ks i k ordered h = (at_from ks [] 0 i i k refl (omega arith) ordered h).1

pub ordered-push : (ks : List Kind) (n m : ℕ) (k : Kind) → m ≡ n + length ks → are_ordered n ks ≡ true → is_inside m k ≡ true → are_ordered n (ks ++ k ∷ []) ≡ true
ordered-push [] n m k size ordered h = let e : m ≡ n = omega arith in let i : is_inside n k ≡ true = subst (λ (j : ℕ). is_inside j k ≡ true) e h in rw i refl
ordered-push (x ∷ ks) n m k size ordered h =
    let parts = both (is_inside n x) (are_ordered (suc n) ks) ordered in
    let rest = ordered-push ks (suc n) m k (omega arith) parts.1 h in rw (parts.0) rest

-- more kinds leave the types of those before them
pub keeps-push : (ks : List Kind) (k : Kind) → Keeps ks (ks ++ k ∷ [])
unfolding seen_types
keeps-push ks k n t h = rw (types_from-push ks [] k) (slice_get_kept (seen_types ks) (type_by (seen_types ks) k ∷ []) n t h)

pub stands-push : (ks : List Kind) (k : Kind) → Stands (ks ++ k ∷ []) (length ks) (type_by (seen_types ks) k)
unfolding seen_types
stands-push ks k =
    rw (types_from-push ks [] k)
    (subst (λ (j : ℕ). slice_get (seen_types ks ++ type_by (seen_types ks) k ∷ []) j ≡ Some (type_by (seen_types ks) k)) (length-seen_types ks)
    (slice_get_last (seen_types ks) (type_by (seen_types ks) k)))

pub type_at-stands : (ks : List Kind) (n : ℕ) (t : IdlType) → Stands ks n t → type_at ks n ≡ t
type_at-stands ks n t h = ap or_void h

-- ## A kind that is added

types_from-append : (xs : List Kind) (done : List IdlType) (ys : List Kind) → types_from done (xs ++ ys) ≡ types_from (types_from done xs) ys
types_from-append [] done ys = refl
types_from-append (x ∷ xs) done ys = types_from-append xs (done ++ type_by done x ∷ []) ys

type_by-push : (ks : List Kind) (k x : Kind) → is_inside (length ks) k ≡ true → type_by (seen_types (ks ++ x ∷ [])) k ≡ type_by (seen_types ks) k
unfolding seen_types
type_by-push ks k x h =
    let e : length (types_from [] ks) ≡ length ks = length-seen_types ks in
    ap (λ l. type_by l k) (types_from-append ks [] (x ∷ []))
    ∙ type_by_kept k (x ∷ []) (types_from [] ks) (subst (λ (j : ℕ). is_inside j k ≡ true) (sym e) h)

module _ (eq : Kind → Kind → Bool) where
  pub ordered-insert : (ks : List Kind) (k : Kind) → are_ordered 0 ks ≡ true → is_inside (length ks) k ≡ true → are_ordered 0 (insert_key eq ks k) ≡ true
  ordered-insert ks k ordered inside = by (list_any (eq k) ks)
    where
      by : (b : Bool) → are_ordered 0 (if b then ks else ks ++ k ∷ []) ≡ true
      by true = ordered
      by false = ordered-push ks 0 (length ks) k (omega arith) ordered inside

  pub keeps-insert : (ks : List Kind) (k : Kind) → Keeps ks (insert_key eq ks k)
  keeps-insert ks k = by (list_any (eq k) ks)
    where
      by : (b : Bool) → Keeps ks (if b then ks else ks ++ k ∷ [])
      by true n t h = h
      by false n t h = keeps-push ks k n t h

  type_by-insert : (ks : List Kind) (k : Kind) → is_inside (length ks) k ≡ true → type_by (seen_types (insert_key eq ks k)) k ≡ type_by (seen_types ks) k
  type_by-insert ks k inside = by (list_any (eq k) ks)
    where
      by : (b : Bool) → type_by (seen_types (if b then ks else ks ++ k ∷ [])) k ≡ type_by (seen_types ks) k
      by true = refl
      by false = type_by-push ks k k inside

  pub stands-insert : (ks : List Kind) (k found : Kind) (n : ℕ) → are_ordered 0 ks ≡ true → is_inside (length ks) k ≡ true → k ≡ found
      → slice_get (insert_key eq ks k) n ≡ Some found → Stands (insert_key eq ks k) n (type_by (seen_types ks) k)
  stands-insert ks k found n ordered inside same h =
      let e : slice_get (insert_key eq ks k) n ≡ Some k = h ∙ ap Some (sym same) in
      stands_at (insert_key eq ks k) n k (ordered-insert ks k ordered inside) e ∙ ap Some (type_by-insert ks k inside)

slice_get_short : {X Y : Type 0} (xs : List X) (ys : List Y) (n : ℕ) → length xs ≡ length ys → slice_get xs n ≡ None → slice_get ys n ≡ None
slice_get_short xs [] n same h = refl
slice_get_short [] (y ∷ ys) n same h = absurd (omega arith)
slice_get_short (x ∷ xs) (y ∷ ys) zero same h = absurd (none-some x (sym h))
slice_get_short (x ∷ xs) (y ∷ ys) (suc n) same h = slice_get_short xs ys n (omega arith) h

-- what is no number of a type
pub none_at : (ks : List Kind) (n : ℕ) → slice_get ks n ≡ None → type_at ks n ≡ Void
none_at ks n h = ap or_void (slice_get_short ks (seen_types ks) n (sym (length-seen_types ks)) h)
