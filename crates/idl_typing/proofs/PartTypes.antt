-- The types of parts, one after another.
use Rattle.std.proofs.Common.{◌≡◌, ℕ, ◌+◌, ◌<◌, true, ltb, List, [], ◌∷◌, ◌++◌, map, take, length, Some, slice_get, refl, sym, ap, ◌∙◌, arith}
use Rattle.std.proofs.lemmas.List.{map-append}
use Rattle.std.proofs.lemmas.Bool.{ltb-true, lt-ltb, and_parts as both}
use Rattle.idl_declared_types.specs.declared.kinds.Kind.{Kind}
use Rattle.idl_rule_definitions.specs.Types.{IdlType}
use Rattle.idl_declared_types.specs.Kinds.{type_at, Keeps}
use Rattle.idl_declared_types.specs.SeenNames.{are_below}
use Rattle.idl_declared_types.proofs.NameLists.{le-keeps, type_at-keeps}
use Rattle.nd_lemmas.proofs.Lists.{take_next}

-- more kinds leave the types of numbers
pub types-keeps : (old new : List Kind) (numbers : List ℕ) → Keeps old new → are_below (length old) numbers ≡ true → map (type_at new) numbers ≡ map (type_at old) numbers
types-keeps old new [] h below = refl
types-keeps old new (n ∷ ns) h below =
    let parts = both (ltb n (length old)) (are_below (length old) ns) below in
    ap (λ t. t ∷ map (type_at new) ns) (type_at-keeps old new n h (ltb-true n (length old) parts.0)) ∙ ap (λ r. type_at old n ∷ r) (types-keeps old new ns h parts.1)

pub below-le : (old new : List Kind) (numbers : List ℕ) → Keeps old new → are_below (length old) numbers ≡ true → are_below (length new) numbers ≡ true
below-le old new [] h below = refl
below-le old new (n ∷ ns) h below =
    let parts = both (ltb n (length old)) (are_below (length old) ns) below in
    let le = le-keeps old new h in
    let first = lt-ltb n (length new) (omega (arith, ltb-true n (length old) parts.0)) in
    let rest = below-le old new ns h parts.1 in
    rw first rest

pub below-push : (n : ℕ) (numbers : List ℕ) (k : ℕ) → are_below n numbers ≡ true → k < n → are_below n (numbers ++ k ∷ []) ≡ true
below-push n [] k h within = let e = lt-ltb k n within in rw e refl
below-push n (m ∷ ms) k h within =
    let parts = both (ltb m n) (are_below n ms) h in
    let first = parts.0 in
    let rest = below-push n ms k parts.1 within in
    rw first rest

-- one part more
pub part_next : {D E : Type 0} (old new : List Kind) (numbers : List ℕ) (f : E → IdlType) (seen : D → E) (parts : List D) (i : ℕ) (part : D) (k : ℕ) → Keeps old new
    → are_below (length old) numbers ≡ true → map (type_at old) numbers ≡ map f (map seen (take i parts)) → slice_get parts i ≡ Some part → type_at new k ≡ f (seen part)
    → map (type_at new) (numbers ++ k ∷ []) ≡ map f (map seen (take (i + 1) parts))
part_next old new numbers f seen parts i part k keeps below is here type =
    map-append (type_at new) numbers (k ∷ [])
    ∙ ap (λ l. l ++ type_at new k ∷ []) (types-keeps old new numbers keeps below ∙ is)
    ∙ ap (λ t. map f (map seen (take i parts)) ++ t ∷ []) type
    ∙ sym (ap (λ l. map f (map seen l)) (take_next parts i part here)
    ∙ ap (map f) (map-append seen (take i parts) (part ∷ []))
    ∙ map-append f (map seen (take i parts)) (seen part ∷ []))
