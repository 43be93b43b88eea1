-- Examples with pointers.
use Rattle.std.specs.Prelude.{ℕ, pos, List, [], ◌∷◌}
use Rattle.nd_types.specs.declared.types.TypeDef.TheVariants as def
use Rattle.nd_types.specs.declared.types.Class.TheVariants.{Ref, Unique, Full}
use Rattle.nd_value.specs.declared.value.Graph.{Graph}
use Rattle.nd_value.specs.Setting.{Setting}
use Rattle.nd_grammar.specs.ExampleParts.{request, param, field, id, num, pointer_to, null, one, two, struct_of, cell, four}

-- struct leaf { long v; } (12), a full pointer to it (13), struct x { leaf *y; leaf *z; } (14), a full pointer to it (15),
-- struct pair { x *a; leaf *b; } (16), and void h(pair *p) by a reference pointer (17)
abbrev pub pairs : Setting
pairs =
    request
    (def.Struct (field 7 [] ∷ []) ∷ def.Pointer Full (id 12) ∷ def.Struct (field 13 [] ∷ field 13 [] ∷ [])
    ∷ def.Pointer Full (id 14) ∷ def.Struct (field 15 [] ∷ field 13 [] ∷ []) ∷ def.Pointer Ref (id 16) ∷ [])
    (param 17 ∷ [])

-- b and y are one leaf, which b names first in place; it is where deferral comes to it first, at y
abbrev pub shared_leaf : Graph
shared_leaf = record {
  roots = pointer_to 1 ∷ [];
  cells =
      cell 16 (struct_of (two (pointer_to 2) (pointer_to 3))) ∷ cell 14 (struct_of (two (pointer_to 3) (pointer_to 4)))
      ∷ cell 12 (struct_of (one (num (pos 5)))) ∷ cell 12 (struct_of (one (num (pos 6)))) ∷ [];
}

abbrev pub shared_leaf_octets : List ℕ
shared_leaf_octets = four 2 (four 3 (four 3 (four 4 (four 5 (four 6 [])))))

-- the same with y null: z's leaf, 5, is before b's, 6
abbrev pub null_y : Graph
null_y = record {
  roots = pointer_to 1 ∷ [];
  cells =
      cell 16 (struct_of (two (pointer_to 2) (pointer_to 3))) ∷ cell 14 (struct_of (two null (pointer_to 4)))
      ∷ cell 12 (struct_of (one (num (pos 6)))) ∷ cell 12 (struct_of (one (num (pos 5)))) ∷ [];
}

abbrev pub null_y_octets : List ℕ
null_y_octets = four 2 (four 3 (four 0 (four 4 (four 5 (four 6 [])))))

-- a null reference pointer
abbrev pub null_pair : Graph
null_pair = record { roots = null ∷ []; cells = [] }

-- void two(long *a, long *b) by unique pointers (12)
abbrev pub unique_longs : Setting
unique_longs = request (def.Pointer Unique (id 7) ∷ []) (param 12 ∷ param 12 ∷ [])

abbrev pub two_fives : Graph
two_fives = record { roots = pointer_to 1 ∷ pointer_to 2 ∷ []; cells = cell 7 (num (pos 5)) ∷ cell 7 (num (pos 5)) ∷ [] }

abbrev pub shared_five : Graph
shared_five = record { roots = pointer_to 1 ∷ pointer_to 1 ∷ []; cells = cell 7 (num (pos 5)) ∷ [] }

-- the same by full pointers (12), which may name one cell
abbrev pub full_longs : Setting
full_longs = request (def.Pointer Full (id 7) ∷ []) (param 12 ∷ param 12 ∷ [])

-- void f(long *a, short *b) by full pointers (12, 13)
abbrev pub long_and_short : Setting
long_and_short = request (def.Pointer Full (id 7) ∷ def.Pointer Full (id 5) ∷ []) (param 12 ∷ param 13 ∷ [])

-- two numbers for the pointers, 1 both times, and a long 5 between them
abbrev pub one_five_one : List ℕ
one_five_one = four 1 (four 5 (four 1 []))
