-- The types that the first operations of an interface reach.
-- `n` is how many operations, `i` the number of one, `o` the operation, `p` a parameter, `t` and `v` are types' numbers, `d` a type.
use Rattle.std.specs.Prelude.{◌≡◌, ℕ, ◌<◌, Some, slice_get}
use Rattle.nd_types.specs.declared.interface.Interface.{Interface}
use Rattle.nd_types.specs.declared.types.TypeId.{TypeId}
use Rattle.nd_types.specs.declared.types.TypeDef.{TypeDef}
use Rattle.nd_types.specs.declared.types.Param.{Param}
use Rattle.nd_types.specs.declared.types.Operation.{Operation}
use Rattle.nd_types.specs.declared.TheConstants.{HANDLE}
use Rattle.nd_types.specs.Table.{type_at}
use Rattle.nd_types.specs.Legal.{named_types}
use Rattle.nd_value.specs.Setting.{Among}

-- the type of a parameter that is no handle_t, the type of a result, and each type that such a type names: its members, its element, its arms, its
-- tag's, its pointee
pub data IsNeeded (old : Interface) (n : ℕ) : ℕ → Type 0 where
  by_param : (i : ℕ) (o : Operation) (p : Param) → i < n → slice_get old.operations i ≡ Some o → Among o.params p → (p.field.of.0 ≡ HANDLE.0 → ⊥)
      → IsNeeded old n p.field.of.0
  by_result : (i : ℕ) (o : Operation) (t : TypeId) → i < n → slice_get old.operations i ≡ Some o → o.result ≡ Some t → IsNeeded old n t.0
  by_part : (t : ℕ) (d : TypeDef) (v : ℕ) → IsNeeded old n t → type_at old.types t ≡ Some d → Among (named_types d) v → IsNeeded old n v
