-- The graphs of the rows.
use Rattle.std.specs.Prelude.{ℕ, ℤ, ◌<◌, ◌^◌, pos, List, [], ◌∷◌, length, Some, None}
use Rattle.nd_value.specs.declared.value.Graph.{Graph}
use Rattle.nd_value.specs.Tree as tree
use Rattle.nd_value.specs.Tree.{Tree, node, none, more, Referent}
use Rattle.nd_value.specs.Conforms.{HasFewNodes}

abbrev pub num : ℤ → Tree
num z = node (tree.Num z) none

abbrev pub pointer_to : ℕ → Tree
pointer_to c = node (tree.Ptr (Some c)) none

abbrev pub null : Tree
null = node (tree.Ptr None) none

abbrev pub of_one : Tree → Tree
of_one t = node tree.Rec (more t none)

abbrev pub of_two : Tree → Tree → Tree
of_two t u = node tree.Rec (more t (more u none))

abbrev pub cell : ℕ → Tree → Referent
cell t v = record { of = t; val = v }

abbrev pub graph : List Tree → List Referent → Graph
graph roots cells = record { roots = roots; cells = cells }

-- a ring of 7 alone
abbrev pub ring_of_one : Graph
ring_of_one = graph (pointer_to 1 ∷ []) (cell 12 (of_two (num (pos 7)) (pointer_to 1)) ∷ [])

-- a ring of 7 and 8, in the order of the stream
abbrev pub ring_of_two : Graph
ring_of_two = graph (pointer_to 1 ∷ []) (cell 12 (of_two (num (pos 7)) (pointer_to 2)) ∷ cell 12 (of_two (num (pos 8)) (pointer_to 1)) ∷ [])

-- the same with its cells swapped
abbrev pub ring_swapped : Graph
ring_swapped = graph (pointer_to 2 ∷ []) (cell 12 (of_two (num (pos 8)) (pointer_to 2)) ∷ cell 12 (of_two (num (pos 7)) (pointer_to 1)) ∷ [])

-- a ring of 7 alone, and a leaf that nothing names
abbrev pub ring_and_leaf : Graph
ring_and_leaf = graph (pointer_to 1 ∷ []) (cell 12 (of_two (num (pos 7)) (pointer_to 1)) ∷ cell 14 (of_one (num (pos 8))) ∷ [])

-- two pointers to cells of their own, and to one cell
abbrev pub apart : Graph
apart = graph (pointer_to 1 ∷ pointer_to 2 ∷ []) (cell 7 (num (pos 5)) ∷ cell 7 (num (pos 5)) ∷ [])

abbrev pub shared : Graph
shared = graph (pointer_to 1 ∷ pointer_to 1 ∷ []) (cell 7 (num (pos 5)) ∷ [])

-- a struct with a count that is 3, and an array of two
abbrev pub miscounted : Graph
miscounted =
    graph (pointer_to 1 ∷ []) (cell 22 (of_two (num (pos 3)) (node (tree.Arr 2 0) (more (num (pos 1)) (more (num (pos 2)) none)))) ∷ [])

-- a string "h" with a zero after it
abbrev pub zero_within : Graph
zero_within = graph (pointer_to 1 ∷ []) (cell 24 (node (tree.Text 3 (104 ∷ 0 ∷ [])) none) ∷ [])

-- the octets 171 and 205
abbrev pub two_back : Graph
two_back = graph (node (tree.Arr 2 0) (more (num (pos 171)) (more (num (pos 205)) none)) ∷ []) []

-- a pointer to a number, and an array of 7 alone
abbrev pub one_back : ℕ → Graph
one_back n = graph (pointer_to 1 ∷ node (tree.Arr 1 0) (more (num (pos 7)) none) ∷ []) (cell 8 (num (pos n)) ∷ [])

-- a number, and a pointer to one
abbrev pub asked : ℕ → Graph
asked n = graph (num (pos n) ∷ []) []

abbrev pub asked_by_pointer : ℕ → Graph
asked_by_pointer n = graph (pointer_to 1 ∷ []) (cell 8 (num (pos n)) ∷ [])

-- what `fit` asks of a graph
pub record IsSmall (g : Graph) : Type 0 where
  pub few_cells : length g.cells < 2 ^ 32
  pub few_nodes : HasFewNodes g
