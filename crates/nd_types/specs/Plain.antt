-- Plain interfaces: no types of their own, and operations that take signed integers alone and give nothing back.
-- `p` is a primitive or a parameter, `o` an operation, `i` a parameter's index.
use Rattle.std.specs.Prelude.{◌≡◌, ◌≢◌, ℕ, ◌+◌, ◌≤◌, Bool, true, false, List, [], ◌∷◌, Option, Some, None, length, All, AllPairs}
use Rattle.nd_base.specs.Text.{is_identifier}
use Rattle.nd_types.specs.declared.types.TypeDef.{TypeDef}
use Rattle.nd_types.specs.declared.types.TypeDef.TheVariants.{Prim}
use Rattle.nd_types.specs.declared.types.Primitive.{Primitive}
use Rattle.nd_types.specs.declared.types.Primitive.TheVariants.{Small, Short, Long, Hyper}
use Rattle.nd_types.specs.declared.types.Param.{Param}
use Rattle.nd_types.specs.declared.types.Way.TheVariants as way
use Rattle.nd_types.specs.declared.types.Operation.{Operation}
use Rattle.nd_types.specs.declared.TheConstants.{OPERATION_LIMIT, PARAM_LIMIT}
use Rattle.nd_types.specs.Table.{Table, type_at}
use Rattle.nd_types.specs.Kinds.{basic_types}
use Rattle.nd_types.specs.Roots.{Root}

-- small, short, long and hyper
abbrev pub is_plain_prim : Primitive → Bool
is_plain_prim Small = true
is_plain_prim Short = true
is_plain_prim Long = true
is_plain_prim Hyper = true
is_plain_prim _ = false

-- a type that is one of these
abbrev pub is_plain_type : Option TypeDef → Bool
is_plain_type (Some (Prim p)) = is_plain_prim p
is_plain_type _ = false

-- an [in] parameter that is a small, short, long or hyper, without attributes
pub record IsPlainParam (p : Param) : Type 0 where
  pub integer : is_plain_type (type_at basic_types p.field.of.0) ≡ true
  pub way : p.way ≡ way.In
  pub no_attributes : p.field.vars ≡ []
  pub name : is_identifier p.field.name ≡ true

-- a parameter of this name and type, for a plain operation
abbrev pub plain_param : List ℕ → ℕ → Param
plain_param name t = record { field = record { name = name; of = record { 0 = t }; vars = [] }; way = way.In }

-- an operation of such parameters, not too many and of different names, without a result
pub record IsPlainOperation (o : Operation) : Type 0 where
  pub name : is_identifier o.name ≡ true
  pub params : All IsPlainParam o.params
  pub no_result : o.result ≡ None
  pub few : length o.params ≤ PARAM_LIMIT
  pub distinct : AllPairs (λ p q. p.field.name ≢ q.field.name) o.params

-- an interface of such operations, not too many and of different names, whose types are the basic ones alone
pub record IsPlainInterface (types : Table) (operations : List Operation) : Type 0 where
  pub basic : types ≡ basic_types
  pub plain : All IsPlainOperation operations
  pub few : length operations ≤ OPERATION_LIMIT
  pub distinct : AllPairs (λ o p. o.name ≢ p.name) operations

-- parameters as roots in their order, from the i-th on, each of its own type, without attributes and no pipe
abbrev pub plain_roots : ℕ → List Param → List Root
plain_roots i [] = []
plain_roots i (p ∷ ps) = record { of = p.field.of.0; param = Some i; vars = []; is_pipe = false } ∷ plain_roots (i + 1) ps
