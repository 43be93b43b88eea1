-- Examples with arrays whose counts travel.
use Rattle.std.specs.Prelude.{ℕ, false, ℤ, pos, List, [], ◌∷◌, None}
use Rattle.nd_types.specs.declared.types.TypeDef.TheVariants as def
use Rattle.nd_types.specs.declared.types.Attr.TheVariants as attr
use Rattle.nd_types.specs.declared.types.Class.TheVariants.{Ref}
use Rattle.nd_value.specs.declared.value.Graph.{Graph}
use Rattle.nd_value.specs.Tree as tree
use Rattle.nd_value.specs.Tree.{node}
use Rattle.nd_value.specs.Setting.{Setting}
use Rattle.nd_grammar.specs.ExampleParts.{request, param, field, attribute, id, num, pointer_to, one, two, struct_of, cell, four}

-- struct s { short n; [size_is(n)] hyper a[*]; } (12, its array 13), and void sum(s *p) by a reference pointer (14)
abbrev pub sized : Setting
sized =
    request
    (def.Struct (field 5 [] ∷ field 13 (attribute attr.Size 0) ∷ []) ∷ def.Array (id 9) None false ∷ def.Pointer Ref (id 12) ∷ [])
    (param 14 ∷ [])

-- n before two elements, 1 and 2
abbrev pub sized_graph : ℤ → Graph
sized_graph n = record {
  roots = pointer_to 1 ∷ [];
  cells = cell 12 (struct_of (two (num n) (node (tree.Arr 2 0) (two (num (pos 1)) (num (pos 2)))))) ∷ [];
}

-- the maximum count, 2, is before the struct and its gap
abbrev pub sized_octets : ℕ → List ℕ
sized_octets n = four 2 (four 0 (n ∷ 0 ∷ 0 ∷ 0 ∷ 0 ∷ 0 ∷ 0 ∷ 0 ∷ four 1 (four 0 (four 2 (four 0 [])))))

-- struct inner { long n; [size_is(n)] short a[*]; } (12, its array 13), struct outer { byte t; inner i; } (14), and
-- void g(outer *p) by a reference pointer (15)
abbrev pub nested : Setting
nested =
    request
    (def.Struct (field 7 [] ∷ field 13 (attribute attr.Size 0) ∷ []) ∷ def.Array (id 5) None false
    ∷ def.Struct (field 2 [] ∷ field 12 [] ∷ []) ∷ def.Pointer Ref (id 14) ∷ [])
    (param 15 ∷ [])

abbrev pub nested_graph : Graph
nested_graph = record {
  roots = pointer_to 1 ∷ [];
  cells = cell 14 (struct_of (two (num (pos 9)) (struct_of (two (num (pos 1)) (node (tree.Arr 1 0) (one (num (pos 5)))))))) ∷ [];
}

-- the maximum count, 1, is before the outer struct
abbrev pub nested_octets : List ℕ
nested_octets = four 1 (9 ∷ 0 ∷ 0 ∷ 0 ∷ four 1 (5 ∷ 0 ∷ []))
