-- Examples with unions and pipes.
use Rattle.std.specs.Prelude.{ℕ, true, pos, List, [], ◌∷◌, Option, Some}
use Rattle.nd_types.specs.declared.types.TypeDef.TheVariants as def
use Rattle.nd_types.specs.declared.types.Arm.{Arm}
use Rattle.nd_types.specs.declared.types.Class.TheVariants.{Ref}
use Rattle.nd_value.specs.declared.value.Graph.{Graph}
use Rattle.nd_value.specs.Tree as tree
use Rattle.nd_value.specs.Tree.{Trees, node}
use Rattle.nd_value.specs.Setting.{Setting}
use Rattle.nd_grammar.specs.ExampleParts.{request, param, arm, id, num, pointer_to, three, cell, four}

-- union u switch (short k) { case 1: long a; .. } (12), with a default or without, and void pick(u *p) by a reference pointer (13)
abbrev pub choice : Option Arm → Setting
choice default = request (def.Union (id 5) true (arm (pos 1) 7 ∷ []) default ∷ def.Pointer Ref (id 12) ∷ []) (param 13 ∷ [])

-- default: hyper h
abbrev pub choice_of_hyper : Setting
choice_of_hyper = choice (Some (arm (pos 0) 9))

-- tag 9 selects the default
abbrev pub default_chosen : Trees → Graph
default_chosen ks = record { roots = pointer_to 1 ∷ []; cells = cell 12 (node (tree.Union (pos 9)) ks) ∷ [] }

abbrev pub choice_octets : List ℕ
choice_octets = 9 ∷ 0 ∷ 0 ∷ 0 ∷ 0 ∷ 0 ∷ 0 ∷ 0 ∷ four 1 (four 0 [])

-- a pipe of long (12), and void feed(pipe d)
abbrev pub pipe_of_longs : Setting
pipe_of_longs = request (def.Pipe (id 7) ∷ []) (param 12 ∷ [])

abbrev pub three_piped : Graph
three_piped = record { roots = node tree.Pipe (three (num (pos 1)) (num (pos 2)) (num (pos 3))) ∷ []; cells = [] }

-- a chunk of two, a chunk of one, and the last count, 0
abbrev pub chunks_of_two : List ℕ
chunks_of_two = four 2 (four 1 (four 2 (four 1 (four 3 (four 0 [])))))

-- the first 16 of these octets: the second chunk is announced, and is not there
abbrev pub first_chunk : List ℕ
first_chunk = four 2 (four 1 (four 2 (four 1 [])))
