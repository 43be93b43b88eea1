-- Builders after a step.
-- `b` is a builder before it, `fs` are nodes, `c` is a cell's number, `z` a number.
use Rattle.std.specs.Prelude.{ℕ, ℤ, pos, negsuc, List, [], ◌∷◌, length, None}
use Rattle.nd_types.specs.declared.interface.Interface.{Interface}
use Rattle.nd_types.specs.declared.types.Side.TheVariants.{In}
use Rattle.nd_value.specs.declared.item.Home.TheVariants as home
use Rattle.nd_value.specs.Setting.{unread, cell_home}
use Rattle.nd_value.specs.Tree as tree
use Rattle.nd_value.specs.Tree.{Flat}
use Rattle.nd_flat.specs.Building.{Building, closed, opened, start, with_graph, with_nodes, with_root}

-- a root was opened and has these nodes
abbrev pub with_home : List Flat → Building → Building
with_home fs b = with_nodes fs (opened (home.Root (length b.graph.roots)) (with_root (closed b)) b)

-- a root that is a pipe of -1 and 258
abbrev pub with_shorts : Building → Building
with_shorts b = with_home ((tree.Pipe, 2) ∷ (tree.Num (negsuc 0), 0) ∷ (tree.Num (pos 258), 0) ∷ []) b

-- one cell of a long, which is not built, and no root
abbrev pub with_long : Interface → Building
with_long i = with_graph (record { roots = []; cells = record { of = 7; val = unread } ∷ [] }) (start i 0 In None)

-- a cell was opened and is a number
abbrev pub filled : ℕ → ℤ → Building → Building
filled c z b = with_nodes ((tree.Num z, 0) ∷ []) (opened (cell_home c) (closed b) b)
