-- What a graph is read under, and the parts of a graph.
-- `w` is a setting, `g` a graph, `i` the index of a root, `c` the number of a cell, `t` a tree.
use Rattle.std.specs.Prelude.{ℕ, ◌+◌, ◌-◌, suc, zero, ℤ, pos, List, [], ◌∷◌, Option, Some, None, ◌≡◌, ◌⊎◌}
use Rattle.std.specs.List.{slice_get}
use Rattle.nd_types.specs.declared.types.Operation.{Operation}
use Rattle.nd_types.specs.declared.types.Side.{Side}
use Rattle.nd_types.specs.Table.{Table}
use Rattle.nd_types.specs.Roots.{Root, roots_of}
use Rattle.nd_value.specs.declared.value.Graph.{Graph}
use Rattle.nd_value.specs.declared.item.Home.{Home}
use Rattle.nd_value.specs.declared.item.Home.TheVariants as home
use Rattle.nd_value.specs.Tree.{Tree, Trees, node, none, more, Referent, Unread, Label}

-- An operation's side under a table of types, beside the graph of a request or beside none: the attributes of a response may name
-- parameters that travel in the request alone.
pub record Setting : Type 0 where
  pub table : Table
  pub op : Operation
  pub side : Side
  pub given : Option Graph

-- the roots of the side
abbrev pub root_list : Setting → List Root
root_list w = roots_of w.table w.side w.op

-- a value that is not read
abbrev pub unread : Tree
unread = node Unread none

-- a value, unread where there is none
abbrev pub or_unread : Option Tree → Tree
or_unread (Some t) = t
or_unread None = unread

-- the value of a cell, unread where there is none
abbrev pub cell_tree : Option Referent → Tree
cell_tree (Some c) = c.val
cell_tree None = unread

-- a cell by its number, from 1
abbrev pub cell_of_number : Graph → ℕ → Option Referent
cell_of_number g zero = None
cell_of_number g (suc i) = slice_get g.cells i

-- the value of a cell by its number, unread where there is no such cell
abbrev pub cell_at : Graph → ℕ → Tree
cell_at g c = cell_tree (cell_of_number g c)

-- the value of the i-th root, unread where there is no such root
abbrev pub root_at : Graph → ℕ → Tree
root_at g i = or_unread (slice_get g.roots i)

-- cells with the value of one of them, by its place from 0
abbrev pub set_nth : ℕ → Tree → List Referent → List Referent
set_nth i t [] = []
set_nth zero t (x ∷ xs) = record { of = x.of; val = t } ∷ xs
set_nth (suc i) t (x ∷ xs) = x ∷ set_nth i t xs

-- the same by its number from 1
abbrev pub set_cell : ℕ → Tree → List Referent → List Referent
set_cell zero t xs = xs
set_cell (suc i) t xs = set_nth i t xs

-- a cell as a home of nodes
abbrev pub cell_home : ℕ → Home
cell_home c = home.Cell (record { 0 = c })

-- x is among them
abbrev pub Among : {X : Type 0} → List X → X → Type 0
Among [] x = ⊥
Among (y ∷ ys) x = (x ≡ y) ⊎ Among ys x
