-- Graphs with their cells renumbered.
-- `m` is a map of cell numbers, `g` a graph, `t` a tree, `c` a cell's number, `numbers` are the new numbers by the old ones, and
-- `cells` the old numbers by the new ones, from 1.
use Rattle.std.specs.Prelude.{ℕ, List, map, slice_index_or}
use Rattle.nd_value.specs.declared.value.Graph.{Graph}
use Rattle.nd_value.specs.Tree.{Tree, node, Referent}
use Rattle.nd_value.specs.Setting.{cell_at, cell_of_number}
use Rattle.nd_value.specs.Canon.{renumbered, renumbered_label}
use Rattle.nd_value.specs.Fitting.{Fitting}
use Rattle.nd_flat.specs.Building.{referent_type}

-- a tree with each pointer's cell renumbered
abbrev pub renumbered_tree : (ℕ → ℕ) → Tree → Tree
renumbered_tree m (node l ks) = node (renumbered_label m l) (renumbered m ks)

-- a cell with each pointer's cell renumbered
abbrev pub renumbered_cell : (ℕ → ℕ) → Graph → ℕ → Referent
renumbered_cell m g c = record { of = referent_type (cell_of_number g c); val = renumbered_tree m (cell_at g c) }

-- The graph with each pointer's cell renumbered, and its cells in the new order. A cell that has no number gets 0.
abbrev pub renumbered_graph : List ℕ → List ℕ → Graph → Graph
renumbered_graph numbers cells g = record {
  roots = map (renumbered_tree (λ c. slice_index_or numbers c 0)) g.roots;
  cells = map (renumbered_cell (λ c. slice_index_or numbers c 0) g) cells;
}

-- the same of a fit
abbrev pub renumbered_fitting : List ℕ → List ℕ → Fitting → Fitting
renumbered_fitting numbers cells f =
    record { graph = renumbered_graph numbers cells f.graph; op = f.op; side = f.side; interface = f.interface; given = f.given }
