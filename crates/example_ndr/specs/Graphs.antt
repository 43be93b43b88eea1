-- Examples of graphs that conform, or whose first misfit is named. The types of an example are numbered from 12 on, after the basic types.
use Rattle.std.specs.Prelude.{ℕ, ℤ, pos, Bool, true, false, List, [], ◌∷◌, ◌++◌, Option, Some, None}
use Rattle.nd_types.specs.declared.types.TypeDef.{TypeDef}
use Rattle.nd_types.specs.declared.types.TypeDef.TheVariants as def
use Rattle.nd_types.specs.declared.types.TypeId.{TypeId}
use Rattle.nd_types.specs.declared.types.Attr.TheVariants as attr
use Rattle.nd_types.specs.declared.types.AttrVar.{AttrVar}
use Rattle.nd_types.specs.declared.types.Class.TheVariants.{Ref}
use Rattle.nd_types.specs.declared.types.Side.{Side}
use Rattle.nd_types.specs.declared.types.Side.TheVariants as side
use Rattle.nd_types.specs.declared.types.Way.TheVariants as way
use Rattle.nd_types.specs.declared.types.Field.{Field}
use Rattle.nd_types.specs.declared.types.Param.{Param}
use Rattle.nd_types.specs.Kinds.{basic_types}
use Rattle.nd_value.specs.declared.value.Graph.{Graph}
use Rattle.nd_value.specs.Tree as tree
use Rattle.nd_value.specs.Tree.{Tree, Trees, node, none, more, Referent}
use Rattle.nd_value.specs.Setting.{Setting}

abbrev pub id : ℕ → TypeId
id t = record { 0 = t }

abbrev pub field : ℕ → List AttrVar → Field
field t vars = record { name = []; of = id t; vars = vars }

-- size_is of the variable at a place, with `*` or without
abbrev pub sized_by : ℕ → Bool → List AttrVar
sized_by v star = record { attr = attr.Size; var = v; star = star } ∷ []

abbrev pub setting : List TypeDef → List Param → Side → Option Graph → Setting
setting types params s given =
    record { table = basic_types ++ types; op = record { name = []; params = params; result = None }; side = s; given = given }

abbrev pub num : ℤ → Tree
num z = node (tree.Num z) none

abbrev pub pointer_to : ℕ → Tree
pointer_to c = node (tree.Ptr (Some c)) none

abbrev pub two : Tree → Tree → Trees
two t u = more t (more u none)

abbrev pub cell : ℕ → Tree → Referent
cell t v = record { of = t; val = v }

-- typedef struct { short n; [size_is(n)] hyper a[*]; } s; void sum([in] s *p): the array 12, the struct 13, the pointer 14
abbrev pub sized : Setting
sized =
    setting
    (def.Array (id 9) None false ∷ def.Struct (field 5 [] ∷ field 12 (sized_by 0 false) ∷ []) ∷ def.Pointer Ref (id 13) ∷ [])
    ((record { field = field 14 []; way = way.In }) ∷ []) side.In None

-- n is 3, and a has two elements
abbrev pub other_size : Graph
other_size =
    record {
      roots = pointer_to 1 ∷ [];
      cells = cell 13 (node tree.Rec (two (num (pos 3)) (node (tree.Arr 2 0) (two (num (pos 1)) (num (pos 2)))))) ∷ [];
    }

-- void say([in, string] char *s): the string 12, the pointer 13
abbrev pub said : Setting
said = setting (def.Text (id 1) None ∷ def.Pointer Ref (id 12) ∷ []) ((record { field = field 13 []; way = way.In }) ∷ []) side.In None

-- a string with a zero in it
abbrev pub zero_within : Graph
zero_within = record { roots = pointer_to 1 ∷ []; cells = cell 12 (node (tree.Text 3 (104 ∷ 0 ∷ [])) none) ∷ [] }

-- void r([in] unsigned long n, [out, size_is(n)] byte a[*]): the array 12; n does not travel back
abbrev pub sized_back : Option Graph → Setting
sized_back given =
    setting (def.Array (id 2) None false ∷ [])
    ((record { field = field 8 []; way = way.In }) ∷ (record { field = field 12 (sized_by 0 false); way = way.Out }) ∷ []) side.Out given

abbrev pub two_back : Graph
two_back = record { roots = node (tree.Arr 2 0) (two (num (pos 171)) (num (pos 205))) ∷ []; cells = [] }

-- the request: n
abbrev pub asked : ℤ → Graph
asked n = record { roots = num n ∷ []; cells = [] }

-- void s2([in, out] unsigned long *n, [out, size_is( *n)] byte a[*]): the array 12, the pointer 13; n travels back
abbrev pub sized_by_own : Option Graph → Setting
sized_by_own given =
    setting (def.Array (id 2) None false ∷ def.Pointer Ref (id 8) ∷ [])
    ((record { field = field 13 []; way = way.InOut }) ∷ (record { field = field 12 (sized_by 0 true); way = way.Out }) ∷ []) side.Out given

abbrev pub one_back : Graph
one_back = record { roots = pointer_to 1 ∷ node (tree.Arr 1 0) (more (num (pos 7)) none) ∷ []; cells = cell 8 (num (pos 1)) ∷ [] }

abbrev pub asked_by_pointer : Graph
asked_by_pointer = record { roots = pointer_to 1 ∷ []; cells = cell 8 (num (pos 5)) ∷ [] }

-- a ring of one node, and of two: struct node { long v; [ptr] struct node *next; }, the struct 12, the pointer 13
abbrev pub ring_node : ℤ → ℕ → Referent
ring_node v next = cell 12 (node tree.Rec (two (num v) (pointer_to next)))

abbrev pub ring_of_one : Graph
ring_of_one = record { roots = pointer_to 1 ∷ []; cells = ring_node (pos 7) 1 ∷ [] }

abbrev pub ring_of_two : Graph
ring_of_two = record { roots = pointer_to 1 ∷ []; cells = ring_node (pos 7) 2 ∷ ring_node (pos 8) 1 ∷ [] }
