-- The interface of the sample: struct node { long v; [ptr] struct node *left; [ptr] struct node *right; } under an operation
-- void take([in, ptr] node *root).
use Rattle.std.specs.Prelude.{ℕ, List, [], ◌∷◌, ◌++◌, None, codes}
use Rattle.nd_types.specs.declared.types.TypeId.{TypeId}
use Rattle.nd_types.specs.declared.types.TypeDef.{TypeDef}
use Rattle.nd_types.specs.declared.types.TypeDef.TheVariants as def
use Rattle.nd_types.specs.declared.types.Class.TheVariants.{Full}
use Rattle.nd_types.specs.declared.types.Side.TheVariants as side
use Rattle.nd_types.specs.declared.types.Field.{Field}
use Rattle.nd_types.specs.declared.types.Way.TheVariants as way
use Rattle.nd_types.specs.declared.types.Operation.{Operation}
use Rattle.nd_types.specs.Table.{Table}
use Rattle.nd_types.specs.Kinds.{basic_types}
use Rattle.nd_value.specs.Setting.{Setting}

abbrev pub id : ℕ → TypeId
id t = record { 0 = t }

abbrev pub member : List ℕ → ℕ → Field
member name t = record { name = name; of = id t; vars = [] }

abbrev pub node : TypeDef
node = def.Struct (member (codes "v") 7 ∷ member (codes "left") 13 ∷ member (codes "right") 13 ∷ [])

-- the node is type 12, the pointer to it type 13
abbrev pub sample_types : Table
sample_types = basic_types ++ node ∷ def.Pointer Full (id 12) ∷ []

abbrev pub take : Operation
take = record { name = codes "take"; params = record { field = member (codes "root") 13; way = way.In } ∷ []; result = None }

-- the request of the operation
abbrev pub sample_setting : Setting
sample_setting = record { table = sample_types; op = take; side = side.In; given = None }
