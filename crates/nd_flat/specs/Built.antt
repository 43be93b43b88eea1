-- What was added to a builder, and the graph that it comes to.
-- `b`, `old` and `new` are builders, `t` is a tree, `g` a graph, `c` a cell's number.
use Rattle.std.specs.Prelude.{◌≡◌, ℕ, [], ◌∷◌, ◌++◌}
use Rattle.nd_value.specs.declared.value.Graph.{Graph}
use Rattle.nd_value.specs.Setting.{set_cell}
use Rattle.nd_value.specs.Tree.{Tree, Trees, flat}
use Rattle.nd_flat.specs.Building.{Building, with_nodes, closed, CanClose}

-- the nodes of trees were put after those of the open home
abbrev pub Adds : Trees → Building → Building → Type 0
Adds ts old new = new ≡ with_nodes (old.nodes ++ flat ts) old

-- what a builder is for stays
pub record Frame (old new : Building) : Type 0 where
  pub op : new.op ≡ old.op
  pub side : new.side ≡ old.side
  pub interface : new.interface ≡ old.interface
  pub given : new.given ≡ old.given

-- these homes are whole, and this is the graph
pub record HasGraph (g : Graph) (old new : Building) : Type 0 where
  pub whole : CanClose new
  pub graph : closed new ≡ g
  pub frame : Frame old new

-- a root was built
abbrev pub Rooted : Tree → Building → Building → Type 0
Rooted t old new = HasGraph (record { roots = (closed old).roots ++ t ∷ []; cells = (closed old).cells }) old new

-- a cell was built
abbrev pub Filled : ℕ → Tree → Building → Building → Type 0
Filled c t old new = HasGraph (record { roots = (closed old).roots; cells = set_cell c t (closed old).cells }) old new
