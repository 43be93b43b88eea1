-- Sides of operations whose roots are numbers alone.
-- `r` is a root, `s` a side, `o` an operation.
use Rattle.std.specs.Prelude.{◌≡◌, ℕ, Bool, true, false, nat_lt, List, [], Some}
use Rattle.std.specs.List.{list_all, slice_get}
use Rattle.nd_types.specs.declared.types.Operation.{Operation}
use Rattle.nd_types.specs.declared.types.Side.{Side}
use Rattle.nd_types.specs.declared.types.Primitive.{Primitive}
use Rattle.nd_types.specs.declared.types.TypeDef.TheVariants.{Prim}
use Rattle.nd_types.specs.Table.{Table, type_at}
use Rattle.nd_types.specs.Kinds.{context_number}
use Rattle.nd_types.specs.Roots.{Root, roots_of}

-- a root that is a primitive: of type 0 to 10
abbrev pub is_number_root : Root → Bool
is_number_root r = nat_lt r.of context_number

-- each root of a side is a primitive
abbrev pub has_number_roots : Table → Side → Operation → Bool
has_number_roots types s o = list_all is_number_root (roots_of types s o)

-- the same of an operation by its number
abbrev pub IsNumberSide : Table → List Operation → ℕ → Side → Type 0
IsNumberSide types operations n s = (o : Operation) → slice_get operations n ≡ Some o → has_number_roots types s o ≡ true

-- a root that is a primitive, no pipe, and without attributes
pub record IsPrimitiveRoot (types : Table) (r : Root) : Type 0 where
  pub prim : Primitive
  pub type : type_at types r.of ≡ Some (Prim prim)
  pub no_pipe : r.is_pipe ≡ false
  pub no_attributes : r.vars ≡ []
