-- Lists whose items pass a test, as items are added.
use Rattle.std.proofs.Common.{◌≡◌, Bool, true, List, [], ◌∷◌, ◌++◌, ap, subst, sym}
use Rattle.std.specs.List.{list_all}
use Rattle.std.specs.Prelude.{ℤ, Result, Ok, Err, IfOk}
use Rattle.nd_base.specs.declared.octets.Memory.{Memory}
use Rattle.nd_types.specs.declared.types.TypeDef.{TypeDef}
use Rattle.nd_types.specs.declared.types.TypeDef.TheVariants as def
use Rattle.nd_types.specs.Legal.{has_named_parts}
use Rattle.idl_declared_types.proofs.Grown.{all_more as one_more}

-- where an item that passes is added, all pass
pub pushed : {X : Type 0} (test : X → Bool) (xs ys : List X) (x : X) → ys ≡ xs ++ x ∷ [] → list_all test xs ≡ true → test x ≡ true → list_all test ys ≡ true
pushed test xs ys x is all one = subst (λ zs. list_all test zs ≡ true) (sym is) (one_more test xs x all one)

-- an enumerated type has no names
pub enum_named : (r : Result TypeDef Memory) (values : List ℤ) → IfOk r (λ d. d ≡ def.Enum values) → IfOk r (λ d. has_named_parts d ≡ true)
enum_named (Ok d) values is = ap has_named_parts is
enum_named (Err e) values is = is
