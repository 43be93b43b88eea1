-- In which order the cells of a graph are named, by what nodes say alone. A graph that conforms has no need of types for it: a
-- reference pointer that is a root names its cell, and then the cell's referent stands, as with any other pointer; and pipes, which
-- come last, name no cell.
-- `g` is a graph, `h` a home, `i` a root's index, `c` a cell's number, `stands` are the cells that stand, `due` the homes that are deferred, in
-- order, `ns` the cells that are named from there on.
use Rattle.std.specs.Prelude.{ℕ, zero, suc, List, [], ◌∷◌, ◌++◌, length, map}
use Rattle.nd_value.specs.declared.value.Graph.{Graph}
use Rattle.nd_value.specs.declared.item.Home.{Home}
use Rattle.nd_value.specs.declared.item.Home.TheVariants as home
use Rattle.nd_value.specs.Setting.{Among, root_at, cell_at, cell_home}
use Rattle.nd_value.specs.Names.{named_by}

-- these cells as homes
abbrev pub cell_homes : List ℕ → List Home
cell_homes cs = map cell_home cs

-- The cells that are named, each time that a pointer does. A root, or a cell that does not stand yet, stands once it is the first that is
-- deferred: it names the cells of its pointers, which are deferred in their order before the others. A cell that stands names nothing again.
pub data Naming (g : Graph) : List ℕ → List Home → List ℕ → Type 0 where
  none_due : {stands : List ℕ} → Naming g stands [] []
  root_due : {stands ns : List ℕ} {due : List Home} (i : ℕ)
      → Naming g stands (cell_homes (named_by (root_at g i)) ++ due) ns
      → Naming g stands (home.Root i ∷ due) (named_by (root_at g i) ++ ns)
  cell_due : {stands ns : List ℕ} {due : List Home} (c : ℕ)
      → ¬ Among stands c
      → Naming g (c ∷ stands) (cell_homes (named_by (cell_at g c)) ++ due) ns
      → Naming g stands (cell_home c ∷ due) (named_by (cell_at g c) ++ ns)
  stands_already : {stands ns : List ℕ} {due : List Home} (c : ℕ)
      → Among stands c
      → Naming g stands due ns
      → Naming g stands (cell_home c ∷ due) ns

-- n roots as homes, from the i-th on
abbrev pub root_homes : ℕ → ℕ → List Home
root_homes i zero = []
root_homes i (suc n) = home.Root i ∷ root_homes (suc i) n

-- the cells of a graph in the order in which they are named
abbrev pub AreNamed : Graph → List ℕ → Type 0
AreNamed g ns = Naming g [] (root_homes 0 (length g.roots)) ns
