-- What is answered of types, and of roots by their places, from what the calls below answer.
-- `j` is the interface that those are asked of, `s` a side, `o` an operation, `r` a root, `k` a place.
use Rattle.std.proofs.Common.{◌≡◌, ◌∙◌, ◌<◌, ℕ, List, length, Option, Some, None, Bool, true, false, ◌&&◌, is_some, option_map, IsSomeAnd, sym, subst, ap, refl}
use Rattle.std.specs.List.{slice_get}
use Rattle.std.proofs.lemmas.Option.{same_Some, slice_get_within}
use Rattle.std.proofs.Math.Bool.{and-false}
use Rattle.nd_types.specs.declared.interface.Interface.{Interface}
use Rattle.nd_types.specs.declared.types.Operation.{Operation}
use Rattle.nd_types.specs.declared.types.Side.{Side}
use Rattle.nd_types.specs.declared.types.TypeDef.{TypeDef}
use Rattle.nd_types.specs.Roots.{NamedRoot, named_roots}
use Rattle.nd_types.specs.Table.{type_at}
use Rattle.library_types.specs.declared.description.TypeDescription.{TypeDescription}
use Rattle.library_types.specs.declared.parts.Selection.{Selection}
use Rattle.library_types.specs.Described.{type_described}
use Rattle.library_types.specs.Parts.{IsSelection}
use Rattle.library_answers.specs.Answers.{side_numbered, is_side, OfSide}
use Rattle.library_answers.specs.Types.{OfRoot, HasNoRootAt}
use Rattle.library_answers.proofs.Numbered.{there_and, of_side, no_side}

-- ## Types

described_as : (o : Option TypeDef) (x : TypeDescription) → Some x ≡ option_map type_described o → IsSomeAnd o (λ d. x ≡ type_described d)
described_as None x is = cc
described_as (Some d) x is = same_Some _ _ is

undescribed : (o : Option TypeDef) → None ≡ option_map type_described o → o ≡ None
undescribed None is = refl
undescribed (Some d) is = cc

pub type_is : (i j : Interface) (of : ℕ) (x : TypeDescription) → Some x ≡ option_map type_described (type_at j.types of) → j ≡ i
    → IsSomeAnd (type_at i.types of) (λ d. x ≡ type_described d)
type_is i j of x is same = subst (λ (q : Interface). IsSomeAnd (type_at q.types of) (λ d. x ≡ type_described d)) same (described_as (type_at j.types of) x is)

pub no_type : (i j : Interface) (of : ℕ) → None ≡ option_map type_described (type_at j.types of) → j ≡ i → type_at i.types of ≡ None
no_type i j of is same = subst (λ (q : Interface). type_at q.types of ≡ None) same (undescribed (type_at j.types of) is)

pub ruleset typed = (type_is, no_type)

pub selection_is : (i j : Interface) (of u : ℕ) (x : Selection) → IsSelection (type_at j.types of) u x → j ≡ i → IsSelection (type_at i.types of) u x
selection_is i j of u x is same = subst (λ (q : Interface). IsSelection (type_at q.types of) u x) same is

-- ## Roots

pub roots_counted : (i j : Interface) (operation side : ℕ) (s : Side) (count : ℕ)
    → ((o : Operation) → slice_get j.operations operation ≡ Some o → count ≡ length (named_roots j.types s o)) → operation < length j.operations
    → Some s ≡ side_numbered side → j ≡ i → OfSide i operation side (λ o t. count ≡ length (named_roots i.types t o))
roots_counted i j operation side s count counted low side_is same =
    subst (λ (k : Interface). OfSide k operation side (λ o t. count ≡ length (named_roots k.types t o))) same (of_side j operation side s _ low side_is counted)

pub of_root : (i j : Interface) (operation side k : ℕ) (s : Side) (o : Operation) (r : NamedRoot) (P : Operation → NamedRoot → Type 0) → slice_get j.operations operation ≡ Some o
    → ((x : Operation) → slice_get j.operations operation ≡ Some x → slice_get (named_roots j.types s x) k ≡ Some r) → Some s ≡ side_numbered side → j ≡ i → P o r
    → OfRoot i operation side k P
of_root i j operation side k s o r P there roots side_is same holds =
    subst (λ (q : Interface). OfRoot q operation side k P) same
    (there_and (slice_get j.operations operation) o (λ x. IsSomeAnd (side_numbered side) (λ t. IsSomeAnd (slice_get (named_roots j.types t x) k) (P x))) there
    (there_and (side_numbered side) s (λ t. IsSomeAnd (slice_get (named_roots j.types t o) k) (P o)) (sym side_is)
    (there_and (slice_get (named_roots j.types s o) k) r (P o) (roots o there) holds)))

clash : (b : Bool) → b ≡ false → b ≡ true → ⊥
clash b is_false is_true = cc

pub no_root_side : (i : Interface) (operation side k : ℕ) → None ≡ side_numbered side → is_side i operation side ≡ true → HasNoRootAt i operation side k
no_root_side i operation side k is there = absurd (clash (is_side i operation side) (no_side i operation side is) there)

pub no_root_operation : (i j : Interface) (operation side k : ℕ) → slice_get j.operations operation ≡ None → j ≡ i → is_side i operation side ≡ true
    → HasNoRootAt i operation side k
no_root_operation i j operation side k is same there =
    let gone : slice_get i.operations operation ≡ None = subst (λ (q : Interface). slice_get q.operations operation ≡ None) same is in
    absurd
    (clash (is_side i operation side)
    (ap (λ (o : Option Operation). is_some (side_numbered side) && is_some o) gone ∙ and-false (is_some (side_numbered side))) there)

pub no_root_there : (i j : Interface) (operation side k : ℕ) (s : Side) (o : Operation) → slice_get j.operations operation ≡ Some o
    → ((x : Operation) → slice_get j.operations operation ≡ Some x → slice_get (named_roots j.types s x) k ≡ None) → Some s ≡ side_numbered side → j ≡ i
    → is_side i operation side ≡ true → HasNoRootAt i operation side k
no_root_there i j operation side k s o there none side_is same known =
    subst (λ (q : Interface). HasNoRootAt q operation side k) same
    (of_side j operation side s (λ x t. slice_get (named_roots j.types t x) k ≡ None) (slice_get_within j.operations operation o there) side_is none)

pub ruleset roots_placed = (no_root_side, no_root_operation, no_root_there)
