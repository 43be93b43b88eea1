-- The graph while a home is read.
-- `b` is what was built when the home was opened, `n` what is built then.
use Rattle.std.specs.Prelude.{◌≡◌, ℕ, [], ◌∷◌, ◌++◌, Some}
use Rattle.nd_value.specs.declared.value.Graph.{Graph}
use Rattle.nd_value.specs.Setting.{cell_at, unread}
use Rattle.nd_value.specs.Tree as tree
use Rattle.nd_value.specs.Tree.{node, none}
use Rattle.nd_flat.specs.Building.{Building}

-- the home is still open, and what was read before is as it was
pub record HomeRan (b n : Building) : Type 0 where
  pub open_home : n.home ≡ b.home
  pub roots : n.graph.roots ≡ b.graph.roots
  pub values : (c : ℕ) → cell_at n.graph c ≡ cell_at b.graph c

-- a root more, which is a reference pointer, and its cell, which is not read
abbrev pub with_reference : ℕ → ℕ → Graph → Graph
with_reference c to g = record { roots = g.roots ++ node (tree.Ptr (Some c)) none ∷ []; cells = g.cells ++ record { of = to; val = unread } ∷ [] }
