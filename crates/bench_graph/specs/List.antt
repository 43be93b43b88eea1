-- A list: struct node { long value; [unique] node *next; } under an operation take([in, unique] node *head); and pointers to one cell, under
-- point([in] unsigned long n, [in, size_is(n)] leaf a[*]), where leaf is [ptr] long *.
use Rattle.std.specs.Prelude.{◌≡◌, ℕ, pos, false, List, [], ◌∷◌, ◌++◌, Some, None, codes}
use Rattle.std.specs.List.{AllByRecursion}
use Rattle.nd_types.specs.declared.types.TypeId.{TypeId}
use Rattle.nd_types.specs.declared.types.TypeDef.{TypeDef}
use Rattle.nd_types.specs.declared.types.TypeDef.TheVariants as def
use Rattle.nd_types.specs.declared.types.Attr.TheVariants as attr
use Rattle.nd_types.specs.declared.types.Class.TheVariants.{Unique, Full}
use Rattle.nd_types.specs.declared.types.Field.{Field}
use Rattle.nd_types.specs.declared.types.Way.TheVariants as way
use Rattle.nd_types.specs.declared.types.Operation.{Operation}
use Rattle.nd_types.specs.Table.{Table}
use Rattle.nd_types.specs.Kinds.{basic_types}
use Rattle.nd_value.specs.Tree as tree
use Rattle.nd_value.specs.Tree.{Tree, Referent, more, none, node_count, trees}

abbrev pub id : ℕ → TypeId
id t = record { 0 = t }

abbrev pub member : List ℕ → ℕ → Field
member name t = record { name = name; of = id t; vars = [] }

abbrev pub node : TypeDef
node = def.Struct (member (codes "value") 7 ∷ member (codes "next") 13 ∷ [])

abbrev pub list_types : Table
list_types = basic_types ++ node ∷ def.Pointer Unique (id 12) ∷ def.Pointer Full (id 7) ∷ def.Array (id 14) None false ∷ []

abbrev pub take : Operation
take = record { name = codes "take"; params = record { field = member (codes "head") 13; way = way.In } ∷ []; result = None }

abbrev pub point : Operation
point = record {
  name = codes "point";
  params =
      record { field = member (codes "n") 8; way = way.In }
      ∷ record { field = record { name = codes "a"; of = id 15; vars = record { attr = attr.Size; var = 0; star = false } ∷ [] }; way = way.In }
      ∷ [];
  result = None;
}

abbrev pub list_operations : List Operation
list_operations = take ∷ point ∷ []

-- a value of three nodes: the struct, its number and its pointer
abbrev pub IsNode : Referent → Type 0
IsNode x = node_count (more x.val none) ≡ 3

abbrev pub AreNodes : List Referent → Type 0
AreNodes xs = AllByRecursion IsNode xs

-- so many values of one node each
abbrev pub AreLeaves : List Tree → ℕ → Type 0
AreLeaves ts n = node_count (trees ts) ≡ n

abbrev pub to_first : Tree
to_first = tree.node (tree.Ptr (Some 1)) none

abbrev pub number : ℕ → Tree
number n = tree.node (tree.Num (pos n)) none

abbrev pub array : ℕ → List Tree → Tree
array n ts = tree.node (tree.Arr n 0) (trees ts)

abbrev pub one_leaf : Referent
one_leaf = record { of = 7; val = number 5 }
