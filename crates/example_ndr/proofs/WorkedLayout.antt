-- Worked examples of layout: types that nest as deep as they may.
use Rattle.std.proofs.Common.{◌≡◌, ℕ, ◌+◌, zero, suc, true, false, List, [], ◌∷◌, ◌++◌, None, refl}
use Rattle.std.specs.Prelude.{pos}
use Rattle.nd_base.specs.declared.octets.Order.TheVariants.{Little}
use Rattle.nd_types.specs.declared.types.TypeDef.{TypeDef}
use Rattle.nd_types.specs.declared.types.TypeDef.TheVariants as def
use Rattle.nd_types.specs.declared.types.Class.TheVariants.{Ref}
use Rattle.nd_types.specs.Layout.{align_of, hoists, nests}
use Rattle.nd_types.specs.Roots.{roots_of}
use Rattle.nd_value.specs.declared.value.Graph.{Graph}
use Rattle.nd_value.specs.Tree as tree
use Rattle.nd_value.specs.Tree.{Tree, node, none}
use Rattle.nd_value.specs.Setting.{Setting}
use Rattle.nd_grammar.specs.Stream.{Represents}
use Rattle.nd_grammar.specs.ExampleParts.{request, param, field, empty_arm, id, num, pointer_to, one, two, struct_of, cell, four}
use Rattle.example_ndr.proofs.Check.{represents_so}

-- n structs, each of the one before, from type t on, and at last a struct of a byte and the last of them
abbrev chain : ℕ → ℕ → List TypeDef
chain zero t = def.Struct (field 2 [] ∷ field t [] ∷ []) ∷ []
chain (suc n) t = def.Struct (field t [] ∷ []) ∷ chain n (t + 1)

-- A union of an empty arm, switched by a long (12), inside such structs: 13 to 42 of one member, 43 of two. So 43 nests 32 deep.
abbrev deep_types : List TypeDef
deep_types = def.Union (id 7) true (empty_arm (pos 1) ∷ []) None ∷ chain 30 12

-- void f(byte a, T43 *p) by a reference pointer (44)
abbrev deep : Setting
deep = request (deep_types ++ def.Pointer Ref (id 43) ∷ []) (param 2 ∷ param 44 ∷ [])

pub deep_enough : nests 32 deep.table 43 ≡ true
deep_enough = refl

-- its alignment is the tag's
pub deep_alignment : align_of deep.table 43 ≡ 4
unfolding align_of
deep_alignment = refl

-- one struct more is too deep
abbrev deeper_types : List TypeDef
deeper_types = deep_types ++ def.Struct (field 43 [] ∷ []) ∷ []

pub too_deep : nests 32 (request deeper_types []).table 44 ≡ false
too_deep = refl

abbrev inside : ℕ → Tree → Tree
inside zero t = t
inside (suc n) t = struct_of (one (inside n t))

abbrev deep_graph : Graph
deep_graph = record {
  roots = num (pos 9) ∷ pointer_to 1 ∷ [];
  cells = cell 43 (struct_of (two (num (pos 7)) (inside 30 (node (tree.Union (pos 1)) none)))) ∷ [];
}

-- a gap before the struct, and one before the tag
pub deep_octets : Represents deep Little (four 9 (four 7 (four 1 []))) deep_graph
unfolding align_of hoists roots_of
deep_octets = represents_so deep Little (four 9 (four 7 (four 1 []))) deep_graph [] 60 refl tt refl refl refl refl
