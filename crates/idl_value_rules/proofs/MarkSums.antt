-- What a type holds: it is it, or what it is made of holds it.
use Rattle.std.proofs.Common.{◌≡◌, ◌∙◌, ℕ, ◌<◌, Bool, true, ltb, ◌||◌, List, ap₂, refl, sym, arith}
use Rattle.std.proofs.lemmas.Bool.{ltb-true, lt-ltb}
use Rattle.idl_declared_types.specs.declared.kinds.Kind.{Kind}
use Rattle.idl_declared_types.specs.declared.kinds.Kind.TheVariants as kind
use Rattle.idl_declared_types.specs.Kinds.{is_inside}
use Rattle.std.specs.List.{list_any}
use Rattle.idl_rule_definitions.specs.Types.{IdlType, Void, Handle, ContextHandle, Basic, Struct, Union, Enum, Array, Text, Pointer, Pipe}
use Rattle.idl_rule_definitions.specs.Scene.{chain, below}

any_in_chain : (test : IdlType → Bool) (t : IdlType) → list_any test (chain t) ≡ (test t || list_any test (below t))
any_in_chain test Void = refl
any_in_chain test Handle = refl
any_in_chain test ContextHandle = refl
any_in_chain test (Basic p) = refl
any_in_chain test (Struct p) = refl
any_in_chain test (Union p) = refl
any_in_chain test (Enum p) = refl
any_in_chain test (Array t c v) = refl
any_in_chain test (Text t c) = refl
any_in_chain test (Pointer c t) = refl
any_in_chain test (Pipe t) = refl

pub holds : (test : IdlType → Bool) (t : IdlType) (own under : Bool) → own ≡ test t → under ≡ list_any test (below t) → (own || under) ≡ list_any test (chain t)
holds test t own under h i = ap₂ (λ a b. a || b) h i ∙ sym (any_in_chain test t)

less : (e n m : ℕ) → ltb e n ≡ true → n < m → ltb e m ≡ true
less e n m h below = let z = ltb-true e n h in lt-ltb e m (omega (arith, z, below))

pub inside_more : (k : Kind) (n m : ℕ) → n < m → is_inside n k ≡ true → is_inside m k ≡ true
inside_more (kind.Array e c v) n m below h = less e n m h below
inside_more (kind.Text e c) n m below h = less e n m h below
inside_more (kind.Pointer c e) n m below h = less e n m h below
inside_more (kind.Pipe e) n m below h = less e n m h below
inside_more kind.Void n m below h = refl
inside_more kind.Handle n m below h = refl
inside_more kind.ContextHandle n m below h = refl
inside_more (kind.Basic p) n m below h = h
inside_more (kind.Struct f a) n m below h = refl
inside_more (kind.Union f a) n m below h = refl
inside_more (kind.Enum f a) n m below h = refl
