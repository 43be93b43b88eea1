-- Parts of the examples. Each example's table begins with the basic types, so its own types are numbered from 12 on.
use Rattle.std.specs.Prelude.{ℕ, false, ℤ, List, [], ◌∷◌, ◌++◌, Some, None, codes}
use Rattle.nd_types.specs.declared.types.TypeDef.{TypeDef}
use Rattle.nd_types.specs.declared.types.TypeId.{TypeId}
use Rattle.nd_types.specs.declared.types.Attr.{Attr}
use Rattle.nd_types.specs.declared.types.AttrVar.{AttrVar}
use Rattle.nd_types.specs.declared.types.Arm.{Arm}
use Rattle.nd_types.specs.declared.types.Field.{Field}
use Rattle.nd_types.specs.declared.types.Param.{Param}
use Rattle.nd_types.specs.declared.types.Side.TheVariants as side
use Rattle.nd_types.specs.declared.types.Way.TheVariants as way
use Rattle.nd_types.specs.Kinds.{basic_types}
use Rattle.nd_value.specs.Tree as tree
use Rattle.nd_value.specs.Tree.{Tree, Trees, node, none, more, Referent}
use Rattle.nd_value.specs.Setting.{Setting}

abbrev pub id : ℕ → TypeId
id n = record { 0 = n }

-- an attribute, and the member or parameter that it names
abbrev pub attribute : Attr → ℕ → List AttrVar
attribute a i = record { attr = a; var = i; star = false } ∷ []

-- a member or parameter of a type, with attributes
abbrev pub field : ℕ → List AttrVar → Field
field t vars = record { name = codes "m"; of = id t; vars = vars }

-- an input parameter of a type, with attributes or without
abbrev pub governed : ℕ → List AttrVar → Param
governed t vars = record { field = field t vars; way = way.In }

abbrev pub param : ℕ → Param
param t = governed t []

-- a union's arm
abbrev pub arm : ℤ → ℕ → Arm
arm v t = record { label = v; name = None; of = Some (id t) }

abbrev pub empty_arm : ℤ → Arm
empty_arm v = record { label = v; name = None; of = None }

-- the request of an operation with these parameters, under these types from number 12 on
abbrev pub request : List TypeDef → List Param → Setting
request types params =
    record { table = basic_types ++ types; op = record { name = codes "f"; params = params; result = None }; side = side.In; given = None }

abbrev pub num : ℤ → Tree
num z = node (tree.Num z) none

abbrev pub pointer_to : ℕ → Tree
pointer_to c = node (tree.Ptr (Some c)) none

abbrev pub null : Tree
null = node (tree.Ptr None) none

abbrev pub one : Tree → Trees
one t = more t none

abbrev pub two : Tree → Tree → Trees
two t u = more t (one u)

abbrev pub three : Tree → Tree → Tree → Trees
three t u v = more t (two u v)

abbrev pub struct_of : Trees → Tree
struct_of ks = node tree.Rec ks

abbrev pub cell : ℕ → Tree → Referent
cell t v = record { of = t; val = v }

-- a number below 256 in four octets, the least significant first, before other octets
abbrev pub four : ℕ → List ℕ → List ℕ
four n octets = n ∷ 0 ∷ 0 ∷ 0 ∷ octets
