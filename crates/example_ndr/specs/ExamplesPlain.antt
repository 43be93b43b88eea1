-- Examples without pointers: numbers, truth values, enumerated values, context handles.
use Rattle.std.specs.Prelude.{ℕ, pos, List, [], ◌∷◌}
use Rattle.nd_types.specs.declared.types.TypeDef.TheVariants as def
use Rattle.nd_value.specs.declared.value.Graph.{Graph}
use Rattle.nd_value.specs.Tree as tree
use Rattle.nd_value.specs.Tree.{node, none}
use Rattle.nd_value.specs.Setting.{Setting}
use Rattle.nd_grammar.specs.ExampleParts.{request, param, num}

-- void add(long a, short b, hyper c) with 1, 2, 3; the gap before the hyper holds anything
abbrev pub integers : Setting
integers = request [] (param 7 ∷ param 5 ∷ param 9 ∷ [])

abbrev pub one_two_three : Graph
one_two_three = record { roots = num (pos 1) ∷ num (pos 2) ∷ num (pos 3) ∷ []; cells = [] }

abbrev pub integers_little : List ℕ
integers_little = 1 ∷ 0 ∷ 0 ∷ 0 ∷ 2 ∷ 0 ∷ 0 ∷ 0 ∷ 3 ∷ 0 ∷ 0 ∷ 0 ∷ 0 ∷ 0 ∷ 0 ∷ 0 ∷ []

abbrev pub integers_big : List ℕ
integers_big = 0 ∷ 0 ∷ 0 ∷ 1 ∷ 0 ∷ 2 ∷ 0xAA ∷ 0xAA ∷ 0 ∷ 0 ∷ 0 ∷ 0 ∷ 0 ∷ 0 ∷ 0 ∷ 3 ∷ []

-- its first 9 octets, the first of the hyper's; and its first 7, within the gap
abbrev pub cut_in_hyper : List ℕ
cut_in_hyper = 1 ∷ 0 ∷ 0 ∷ 0 ∷ 2 ∷ 0 ∷ 0 ∷ 0 ∷ 3 ∷ []

abbrev pub cut_in_gap : List ℕ
cut_in_gap = 1 ∷ 0 ∷ 0 ∷ 0 ∷ 2 ∷ 0 ∷ 0 ∷ []

-- void set(boolean b) with TRUE
abbrev pub flag : Setting
flag = request [] (param 0 ∷ [])

abbrev pub true_flag : Graph
true_flag = record { roots = num (pos 1) ∷ []; cells = [] }

-- enum { A, B = 4 }, and void e(that k) with B
abbrev pub colour : Setting
colour = request (def.Enum (pos 0 ∷ pos 4 ∷ []) ∷ []) (param 12 ∷ [])

abbrev pub colour_4 : Graph
colour_4 = record { roots = num (pos 4) ∷ []; cells = [] }

-- void use(context handle c) with attributes 0 and the identifier 00112233-4455-6677-8899-aabbccddeeff
abbrev pub handle : Setting
handle = request [] (param 11 ∷ [])

abbrev pub a_handle : Graph
a_handle = record {
  roots = node
      (tree.Context 0 (0 ∷ 0x11 ∷ 0x22 ∷ 0x33 ∷ 0x44 ∷ 0x55 ∷ 0x66 ∷ 0x77 ∷ 0x88 ∷ 0x99 ∷ 0xAA ∷ 0xBB ∷ 0xCC ∷ 0xDD ∷ 0xEE ∷ 0xFF ∷ [])) none ∷ [];
  cells = [];
}

abbrev pub handle_little : List ℕ
handle_little = 0 ∷ 0 ∷ 0 ∷ 0 ∷ 0x33 ∷ 0x22 ∷ 0x11 ∷ 0 ∷ 0x55 ∷ 0x44 ∷ 0x77 ∷ 0x66 ∷ 0x88 ∷ 0x99 ∷ 0xAA ∷ 0xBB ∷ 0xCC ∷ 0xDD ∷ 0xEE ∷ 0xFF ∷ []

abbrev pub handle_big : List ℕ
handle_big = 0 ∷ 0 ∷ 0 ∷ 0 ∷ 0 ∷ 0x11 ∷ 0x22 ∷ 0x33 ∷ 0x44 ∷ 0x55 ∷ 0x66 ∷ 0x77 ∷ 0x88 ∷ 0x99 ∷ 0xAA ∷ 0xBB ∷ 0xCC ∷ 0xDD ∷ 0xEE ∷ 0xFF ∷ []
