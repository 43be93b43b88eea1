-- The homes of a graph: the roots, then the cells.
-- `r` is a root, `v` its value, `i` its index, `x` a cell, `c` its number, `h` a home.
use Rattle.std.specs.Prelude.{ℕ, ◌+◌, List, [], ◌∷◌, ◌++◌, Option, None}
use Rattle.nd_types.specs.Roots.{NamedRoot}
use Rattle.nd_value.specs.declared.value.Graph.{Graph}
use Rattle.nd_value.specs.declared.item.Home.{Home}
use Rattle.nd_value.specs.declared.item.Home.TheVariants as home
use Rattle.nd_misfits.specs.declared.homes.HomeValue.{HomeValue}
use Rattle.nd_value.specs.Tree.{Tree, Referent}
use Rattle.nd_value.specs.Seen.{tree_of}
use Rattle.nd_value.specs.Setting.{cell_home}

-- a home with its type, the parameter that it is, if it is one, and its value
pub record HomeTree : Type 0 where
  pub home : Home
  pub of : ℕ
  pub param : Option ℕ
  pub val : Tree

-- a home as the program has it
abbrev pub home_tree : HomeValue → HomeTree
home_tree h = record { home = h.home; of = h.of.0; param = h.param; val = tree_of h.val.now }

-- the roots from the i-th on
abbrev pub root_homes : ℕ → List NamedRoot → List Tree → List HomeTree
root_homes i (r ∷ rs) (v ∷ vs) = record { home = home.Root i; of = r.of; param = r.param; val = v } ∷ root_homes (i + 1) rs vs
root_homes i _ _ = []

-- a cell as a home
abbrev pub home_of_cell : ℕ → Referent → HomeTree
home_of_cell c x = record { home = cell_home c; of = x.of; param = None; val = x.val }

-- the cells from number c on
abbrev pub cell_homes : ℕ → List Referent → List HomeTree
cell_homes c [] = []
cell_homes c (x ∷ xs) = home_of_cell c x ∷ cell_homes (c + 1) xs

-- all homes of a graph with these roots
abbrev pub homes_of : List NamedRoot → Graph → List HomeTree
homes_of rs g = root_homes 0 rs g.roots ++ cell_homes 1 g.cells
