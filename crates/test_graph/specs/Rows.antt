-- The interface of the rows: its types, numbered from 12 on after the basic types, and its operations.
use Rattle.std.specs.Prelude.{ℕ, Bool, true, false, List, [], ◌∷◌, ◌++◌, None, codes}
use Rattle.nd_types.specs.declared.types.TypeDef.TheVariants as def
use Rattle.nd_types.specs.declared.types.TypeId.{TypeId}
use Rattle.nd_types.specs.declared.types.Attr.TheVariants as attr
use Rattle.nd_types.specs.declared.types.Class.TheVariants.{Ref, Unique, Full}
use Rattle.nd_types.specs.declared.types.Way.{Way}
use Rattle.nd_types.specs.declared.types.Way.TheVariants as way
use Rattle.nd_types.specs.declared.types.Field.{Field}
use Rattle.nd_types.specs.declared.types.Param.{Param}
use Rattle.nd_types.specs.declared.types.Operation.{Operation}
use Rattle.nd_types.specs.Table.{Table}
use Rattle.nd_types.specs.Kinds.{basic_types}

abbrev pub id : ℕ → TypeId
id t = record { 0 = t }

abbrev pub field : List ℕ → ℕ → Field
field name t = record { name = name; of = id t; vars = [] }

-- a field with size_is of the variable at a place, with `*` or without
abbrev pub sized_field : List ℕ → ℕ → ℕ → Bool → Field
sized_field name t v star = record { name = name; of = id t; vars = record { attr = attr.Size; var = v; star = star } ∷ [] }

abbrev pub param : Field → Way → Param
param f w = record { field = f; way = w }

abbrev pub operation : List ℕ → List Param → Operation
operation name params = record { name = name; params = params; result = None }

-- struct node { long v; [ptr] struct node *next; }: 12, its pointer 13
-- struct leaf { long v; }: 14, its pointer 15; struct x { [ptr] leaf *y; [ptr] leaf *z; }: 16, its pointer 17;
-- struct pair { [ptr] x *a; [ptr] leaf *b; }: 18, its reference pointer 19
-- [unique] long *: 20
-- struct s { short n; [size_is(n)] hyper a[*]; }: the array 21, the struct 22, its reference pointer 23
-- [string] char *: the string 24, its reference pointer 25
-- byte a[*]: 26; unsigned long *, by reference: 27
abbrev pub row_types : Table
row_types =
    basic_types
    ++ def.Struct (field (codes "v") 7 ∷ field (codes "next") 13 ∷ [])
    ∷ def.Pointer Full (id 12)
    ∷ def.Struct (field (codes "v") 7 ∷ [])
    ∷ def.Pointer Full (id 14)
    ∷ def.Struct (field (codes "y") 15 ∷ field (codes "z") 15 ∷ [])
    ∷ def.Pointer Full (id 16)
    ∷ def.Struct (field (codes "a") 17 ∷ field (codes "b") 15 ∷ [])
    ∷ def.Pointer Ref (id 18)
    ∷ def.Pointer Unique (id 7)
    ∷ def.Array (id 9) None false
    ∷ def.Struct (field (codes "n") 5 ∷ sized_field (codes "a") 21 0 false ∷ [])
    ∷ def.Pointer Ref (id 22)
    ∷ def.Text (id 1) None
    ∷ def.Pointer Ref (id 24)
    ∷ def.Array (id 2) None false
    ∷ def.Pointer Ref (id 8)
    ∷ []

-- void ring([in, ptr] node *p); void h([in] pair *p); void two([in, unique] long *a, [in, unique] long *b); void sum([in] s *p);
-- void say([in, string] char *s); void r([in] unsigned long n, [out, size_is(n)] byte a[*]);
-- void s2([in, out] unsigned long *n, [out, size_is( *n)] byte a[*])
abbrev pub row_operations : List Operation
row_operations =
    operation (codes "ring") (param (field (codes "p") 13) way.In ∷ [])
    ∷ operation (codes "h") (param (field (codes "p") 19) way.In ∷ [])
    ∷ operation (codes "two") (param (field (codes "a") 20) way.In ∷ param (field (codes "b") 20) way.In ∷ [])
    ∷ operation (codes "sum") (param (field (codes "p") 23) way.In ∷ [])
    ∷ operation (codes "say") (param (field (codes "s") 25) way.In ∷ [])
    ∷ operation (codes "r") (param (field (codes "n") 8) way.In ∷ param (sized_field (codes "a") 26 0 false) way.Out ∷ [])
    ∷ operation (codes "s2") (param (field (codes "n") 27) way.InOut ∷ param (sized_field (codes "a") 26 0 true) way.Out ∷ [])
    ∷ []
