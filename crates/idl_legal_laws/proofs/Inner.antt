-- What a type in the table is made of is in the table too.
use Rattle.std.proofs.Common.{◌≡◌, Bool, true, false, not, ◌||◌, [], refl, sym, ◌∙◌}
use Rattle.std.specs.List.{list_any, list_all}
use Rattle.idl_rule_definitions.specs.Nodes.{Position, InHeader, InTypedef, InTaggedType, InMember, InParameter, InArm, InCasedArm, InOperation}
use Rattle.idl_rule_definitions.specs.Types.{IdlType, Void, Handle, ContextHandle, Basic, Struct, Union, Enum, Array, Text, Pointer, Pipe, is_void, is_handle}
use Rattle.idl_rule_definitions.specs.Scene.{Scene, chain, below}
use Rattle.idl_rule_definitions.specs.Rules.{breaches_in}
use Rattle.idl_rule_definitions.specs.TypeRules.{without_void, without_handle, is_in_alone}
use Rattle.idl_rule_definitions.specs.Numbering.{own_types}
use Rattle.idl_legal_laws.proofs.KeptTypes.{all_own_good}
use Rattle.std.proofs.lemmas.Bool.{or_parts as none_of}
use Rattle.idl_rule_definitions.proofs.Order.{none as neither_one}

-- what a type is made of, or points to, is `void` or `handle_t`
abbrev pub is_hollow : IdlType → Bool
is_hollow (Array t m v) = is_void t || is_handle t
is_hollow (Text t m) = is_void t || is_handle t
is_hollow (Pointer c t) = is_void t || is_handle t
is_hollow (Pipe t) = is_void t || is_handle t
is_hollow _ = false

-- the parts of a type are itself and those below it
pub chain_is : (p : IdlType → Bool) (t : IdlType) → list_any p (chain t) ≡ (p t || list_any p (below t))
chain_is p (Array t m v) = refl
chain_is p (Text t m) = refl
chain_is p (Pointer c t) = refl
chain_is p (Pipe t) = refl
chain_is p Void = refl
chain_is p Handle = refl
chain_is p ContextHandle = refl
chain_is p (Basic q) = refl
chain_is p (Struct q) = refl
chain_is p (Union q) = refl
chain_is p (Enum q) = refl

pub further : (p : IdlType → Bool) (t : IdlType) → list_any p (chain t) ≡ false → (p t ≡ false) × (list_any p (below t) ≡ false)
further p t h = none_of (p t) (list_any p (below t)) (sym (chain_is p t) ∙ h)

solid : (t : IdlType) → list_any is_void (below t) ≡ false → list_any is_handle (below t) ≡ false → list_any is_hollow (chain t) ≡ false
solid (Array t m v) h i =
    let e = further is_void t h in let f = further is_handle t i in
    neither_one (is_void t || is_handle t) (list_any is_hollow (chain t)) (neither_one (is_void t) (is_handle t) e.0 f.0) (solid t e.1 f.1)
solid (Text t m) h i =
    let e = further is_void t h in let f = further is_handle t i in
    neither_one (is_void t || is_handle t) (list_any is_hollow (chain t)) (neither_one (is_void t) (is_handle t) e.0 f.0) (solid t e.1 f.1)
solid (Pointer c t) h i =
    let e = further is_void t h in let f = further is_handle t i in
    neither_one (is_void t || is_handle t) (list_any is_hollow (chain t)) (neither_one (is_void t) (is_handle t) e.0 f.0) (solid t e.1 f.1)
solid (Pipe t) h i =
    let e = further is_void t h in let f = further is_handle t i in
    neither_one (is_void t || is_handle t) (list_any is_hollow (chain t)) (neither_one (is_void t) (is_handle t) e.0 f.0) (solid t e.1 f.1)
solid Void h i = refl
solid Handle h i = refl
solid ContextHandle h i = refl
solid (Basic p) h i = refl
solid (Struct p) h i = refl
solid (Union p) h i = refl
solid (Enum p) h i = refl

void_below : (position : Position) (t : IdlType) → list_any is_void (without_void position t) ≡ false → list_any is_void (below t) ≡ false
void_below InOperation t h = h
void_below InHeader t h = (further is_void t h).1
void_below InTypedef t h = (further is_void t h).1
void_below InTaggedType t h = (further is_void t h).1
void_below InMember t h = (further is_void t h).1
void_below InParameter t h = (further is_void t h).1
void_below InArm t h = (further is_void t h).1
void_below InCasedArm t h = (further is_void t h).1

handle_below : (position : Position) (b : Bool) (t : IdlType) → list_any is_handle (without_handle position b t) ≡ false → list_any is_handle (below t) ≡ false
handle_below InParameter true t h = h
handle_below InParameter false t h = (further is_handle t h).1
handle_below InOperation b t h = (further is_handle t h).1
handle_below InHeader b t h = (further is_handle t h).1
handle_below InTypedef b t h = (further is_handle t h).1
handle_below InTaggedType b t h = (further is_handle t h).1
handle_below InMember b t h = (further is_handle t h).1
handle_below InArm b t h = (further is_handle t h).1
handle_below InCasedArm b t h = (further is_handle t h).1

-- no type in the table is made of `void` or `handle_t`, or points to one
pub all_solid : (s : Scene) → breaches_in s ≡ [] → list_all (λ n. not (is_hollow n.type)) (own_types s) ≡ true
all_solid s h =
    all_own_good s is_hollow (record { structs = λ p. refl; unions = λ p. refl; enums = λ p. refl })
    (λ u k. solid u.type (void_below u.construct.position u.type k.no_void) (handle_below u.construct.position (is_in_alone u) u.type k.no_handle)) h
