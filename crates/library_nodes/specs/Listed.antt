-- The nodes of all values of a graph.
-- `g` is a graph, `n` are the nodes, `l` is a list of nodes, `ss` are numbers of nodes, `ts` trees, `i` is the index of a root, `c` a cell's number.
use Rattle.std.specs.Prelude.{◌≡◌, ℕ, suc, zero, ◌+◌, List, [], ◌∷◌, ◌++◌, length, take, map, Option, None, if◌then◌else◌, nat_lt}
use Rattle.std.specs.List.{slice_get}
use Rattle.nd_value.specs.declared.value.Graph.{Graph}
use Rattle.nd_value.specs.Tree.{Tree, flat, trees}
use Rattle.library_nodes.specs.declared.node.Node.{Node}
use Rattle.library_nodes.specs.declared.nodes.NodeList.{NodeList}
use Rattle.library_nodes.specs.declared.nodes.Nodes.{Nodes}
use Rattle.library_nodes.specs.Low.{low_flats}
use Rattle.library_nodes.specs.Said.{flats_said, SaysFirst}
use Rattle.library_nodes.specs.Gathered.{AreGathered, AreThere}

-- the values of all roots and then of all cells
abbrev pub home_trees : Graph → List Tree
home_trees g = g.roots ++ map (λ c. c.val) g.cells

-- each of these numbers and the tree of its place are related
abbrev pub ArePaired : (ℕ → Tree → Type 0) → List ℕ → List Tree → Type 0
ArePaired R [] [] = Unit {0}
ArePaired R (s ∷ ss) (t ∷ ts) = R s t × ArePaired R ss ts
ArePaired R _ _ = ⊥

-- the nodes from one on say a value
abbrev pub Begins : NodeList → ℕ → Tree → Type 0
Begins l s t = SaysFirst l.numbers.items l.octets l.nodes.items s t

-- these nodes say these values, one after the other, and nothing else
abbrev pub AreSaid : NodeList → List Node → List Tree → Type 0
AreSaid l ns ts = flats_said l.numbers.items l.octets ns ≡ low_flats (flat (trees ts))

-- each of these numbers and the trees before its place, after some earlier ones, are related
abbrev pub AreLaid : (ℕ → List Tree → Type 0) → List Tree → List ℕ → List Tree → Type 0
AreLaid R earlier [] [] = Unit {0}
AreLaid R earlier (s ∷ ss) (t ∷ ts) = R s earlier × AreLaid R (earlier ++ t ∷ []) ss ts
AreLaid R earlier _ _ = ⊥

-- These are the nodes of the graph: each home begins where those before it end, and nothing follows the last one. Elements that are numbers are
-- among the numbers, and no nodes.
pub record IsListOf (g : Graph) (n : Nodes) : Type 0 where
  pub roots : n.roots ≡ length g.roots
  pub homes : ArePaired (Begins n.list) n.starts.items (home_trees g)
  pub before : AreLaid (λ s ts. AreSaid n.list (take s n.list.nodes.items) ts) [] n.starts.items (home_trees g)
  pub all : AreSaid n.list n.list.nodes.items (home_trees g)
  pub gathered : AreGathered n.list.nodes.items
  pub there : AreThere (length n.list.numbers.items) n.list.nodes.items

-- the number of the first node of a root
abbrev pub root_start : Nodes → ℕ → Option ℕ
root_start n i = if nat_lt i n.roots then slice_get n.starts.items i else None

-- the number of the first node of a cell
abbrev pub cell_start : Nodes → ℕ → Option ℕ
cell_start n zero = None
cell_start n (suc c) = slice_get n.starts.items (n.roots + c)
