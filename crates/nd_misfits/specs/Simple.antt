-- Simple types: those of values of one node, and structs of members of one node that have no attributes.
-- `b` says whether types of pointers are simple, `d` is a type, `f` a member of a struct, `fs` are its members.
use Rattle.std.specs.Prelude.{ℕ, Bool, true, false, ◌&&◌, ◌==◌, if◌then◌else◌, List, length, Option, Some, None}
use Rattle.std.specs.List.{list_all}
use Rattle.nd_types.specs.declared.types.Field.{Field}
use Rattle.nd_types.specs.declared.types.TypeDef.{TypeDef}
use Rattle.nd_types.specs.declared.types.TypeDef.TheVariants as def
use Rattle.nd_types.specs.Table.{Table, type_at}

-- a type of values of one node
abbrev pub is_single : Bool → Option TypeDef → Bool
is_single b (Some (def.Prim p)) = true
is_single b (Some (def.Enum values)) = true
is_single b (Some (def.Text elem bound)) = true
is_single b (Some def.Context) = true
is_single b (Some (def.Pointer class to)) = b
is_single b _ = false

-- a member of such a type that has no attributes
abbrev pub is_simple_member : Bool → Table → Field → Bool
is_simple_member b table f = length f.vars == 0 && is_single b (type_at table f.of.0)

-- how many nodes are below the own one of a struct, if each member is so
abbrev pub simple_struct : Bool → Table → List Field → Option ℕ
simple_struct b table fs = if list_all (is_simple_member b table) fs then Some (length fs) else None

-- how many nodes are below the own one of a value of a type of more nodes, if it is simple
abbrev pub simple_members : Bool → Table → Option TypeDef → Option ℕ
simple_members b table (Some (def.Struct members)) = simple_struct b table members
simple_members b table _ = None

-- the same of any type
abbrev pub simple_nodes : Bool → Table → Option TypeDef → Option ℕ
simple_nodes b table d = if is_single b d then Some 0 else simple_members b table d
