-- What nodes in a list say: the nodes of values, depth first, each with the number of its children.
-- `zs` are the numbers of elements, `os` the octets of strings, `ns` nodes, `n` is a node, `u` a number, `t` a tree, `s` the number of a node.
use Rattle.std.specs.Prelude.{◌≡◌, ℕ, pos, List, [], ◌∷◌, ◌++◌, take, drop, map}
use Rattle.nd_value.specs.Seen.{cell_number}
use Rattle.nd_value.specs.Tree as tree
use Rattle.nd_value.specs.Tree.{Flat, Tree, flat, more, none}
use Rattle.nd_flat.specs.FlatForm.{armed_count}
use Rattle.library_nodes.specs.declared.node.Elements.{Elements}
use Rattle.library_nodes.specs.declared.node.Node.{Node}
use Rattle.library_nodes.specs.declared.node.Node.TheVariants.{Number, Struct, Array, Text, Union, Pointer, Context, Pipe}
use Rattle.library_nodes.specs.Low.{low_flats}

-- a number as a node
abbrev pub number_flat : ℕ → Flat
number_flat u = (tree.Num (pos u), 0)

-- the elements that are numbers
abbrev pub number_flats : List ℕ → Elements → List Flat
number_flats zs e = map number_flat (take e.numbers (drop e.from zs))

-- a node, and its elements that are numbers
abbrev pub node_flats : List ℕ → List ℕ → Node → List Flat
node_flats zs os (Number u) = number_flat u ∷ []
node_flats zs os (Struct count) = (tree.Rec, count) ∷ []
node_flats zs os (Array max offset e) = (tree.Arr max offset, e.count) ∷ number_flats zs e
node_flats zs os (Text max from len) = (tree.Text max (take len (drop from os)), 0) ∷ []
node_flats zs os (Union tag armed) = (tree.Union (pos tag), armed_count armed) ∷ []
node_flats zs os (Pointer cell) = (tree.Ptr (cell_number cell), 0) ∷ []
node_flats zs os (Context attributes id) = (tree.Context attributes id, 0) ∷ []
node_flats zs os (Pipe e) = (tree.Pipe, e.count) ∷ number_flats zs e

abbrev pub flats_said : List ℕ → List ℕ → List Node → List Flat
flats_said zs os [] = []
flats_said zs os (n ∷ ns) = node_flats zs os n ++ flats_said zs os ns

-- The nodes from one on say a value, and then others.
pub record SaysFirst (zs os : List ℕ) (ns : List Node) (s : ℕ) (t : Tree) : Type 0 where
  pub others : List Flat
  pub first : flats_said zs os (drop s ns) ≡ low_flats (flat (more t none)) ++ others
