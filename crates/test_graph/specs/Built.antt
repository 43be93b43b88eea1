-- A pair of pointers, built home by home: the first goes to a struct of two pointers to leaves, the second to the first of these leaves.
use Rattle.std.specs.Prelude.{ℕ, ℤ, pos, List, [], ◌∷◌, length, Some, None}
use Rattle.nd_types.specs.declared.interface.Interface.{Interface}
use Rattle.nd_types.specs.declared.types.Side.TheVariants.{In}
use Rattle.nd_value.specs.declared.item.Home.TheVariants as home
use Rattle.nd_value.specs.declared.value.Graph.{Graph}
use Rattle.nd_value.specs.Setting.{unread, cell_home}
use Rattle.nd_value.specs.Tree as tree
use Rattle.nd_value.specs.Tree.{Flat}
use Rattle.nd_flat.specs.Building.{Building, closed, opened, start, with_graph, with_nodes, with_root}
use Rattle.test_graph.specs.Graphs.{cell, graph, num, of_one, of_two, pointer_to}

-- the nodes of a struct of two pointers, and of a leaf
abbrev pub two_nodes : ℕ → ℕ → List Flat
two_nodes c d = (tree.Rec, 2) ∷ (tree.Ptr (Some c), 0) ∷ (tree.Ptr (Some d), 0) ∷ []

abbrev pub leaf_nodes : ℤ → List Flat
leaf_nodes z = (tree.Rec, 1) ∷ (tree.Num z, 0) ∷ []

-- a cell was opened and has these nodes
abbrev pub filled : ℕ → List Flat → Building → Building
filled c fs b = with_nodes fs (opened (cell_home c) (closed b) b)

-- a root was opened and is a pointer
abbrev pub rooted : ℕ → Building → Building
rooted c b = with_nodes ((tree.Ptr (Some c), 0) ∷ []) (opened (home.Root (length b.graph.roots)) (with_root (closed b)) b)

-- what is built after each step
abbrev pub with_cells : Interface → Building
with_cells i = with_graph (graph [] (cell 18 unread ∷ cell 16 unread ∷ cell 14 unread ∷ cell 14 unread ∷ [])) (start i 1 In None)

abbrev pub with_pointer : Interface → Building
with_pointer i = rooted 1 (with_cells i)

abbrev pub with_pair : Interface → Building
with_pair i = filled 1 (two_nodes 2 3) (with_pointer i)

abbrev pub with_two : Interface → Building
with_two i = filled 2 (two_nodes 3 4) (with_pair i)

abbrev pub with_leaf : Interface → Building
with_leaf i = filled 3 (leaf_nodes (pos 5)) (with_two i)

abbrev pub with_leaves : Interface → Building
with_leaves i = filled 4 (leaf_nodes (pos 6)) (with_leaf i)

-- the graph in the end
abbrev pub pair_graph : Graph
pair_graph =
    graph (pointer_to 1 ∷ []) (cell 18 (of_two (pointer_to 2) (pointer_to 3)) ∷ cell 16 (of_two (pointer_to 3) (pointer_to 4))
    ∷ cell 14 (of_one (num (pos 5))) ∷ cell 14 (of_one (num (pos 6))) ∷ [])
