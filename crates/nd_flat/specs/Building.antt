-- Graphs as they are built.
-- `g` is a graph, `b` a builder, `h` a home, `c` a cell's number, `t` a tree, `fs` are nodes.
use Rattle.std.specs.Prelude.{◌≡◌, ℕ, ℤ, ◌+◌, ◌<◌, ◌≤◌, ◌^◌, List, [], ◌∷◌, ◌++◌, length, slice_set, Option, Some, None, refl}
use Rattle.std.specs.List.{AllByRecursion}
use Rattle.std.specs.Coded.{Coded, code_by, coded×, coded_list, coded_ℕ, coded_option}
use Rattle.nd_types.specs.declared.interface.Interface.{Interface}
use Rattle.nd_types.specs.declared.types.Side.{Side}
use Rattle.nd_types.specs.contracts.types.Side as side
use Rattle.nd_types.specs.contracts.interface.Interface as interface
use Rattle.nd_value.specs.declared.value.Graph.{Graph}
use Rattle.nd_value.specs.declared.item.Home.{Home}
use Rattle.nd_value.specs.declared.item.Home.TheVariants as home
use Rattle.nd_value.specs.contracts.item.Home as homes
use Rattle.nd_value.specs.Tree as tree
use Rattle.nd_value.specs.Tree.{Tree, Trees, node, none, more, Flat, label_code, Referent, tree_code, referent_code}
use Rattle.nd_value.specs.Setting.{unread, root_at, cell_at, set_cell}
use Rattle.nd_flat.specs.Forest.{tree_in, IsWhole}
use Rattle.nd_value.specs.Fitting.{graph_code, Fitting}
use Rattle.nd_flat.specs.FlatForm.{num_flats}

-- the home is there
abbrev pub HasHome : Graph → Home → Type 0
HasHome g (home.Root i) = i < length g.roots
HasHome g (home.Cell c) = (0 < c.0) × (c.0 ≤ length g.cells)

-- the value of a home
abbrev pub home_tree : Graph → Home → Tree
home_tree g (home.Root i) = root_at g i
home_tree g (home.Cell c) = cell_at g c.0

-- the type of a cell; 0 where there is none
abbrev pub referent_type : Option Referent → ℕ
referent_type (Some x) = x.of
referent_type None = 0

-- A graph as it is built: its roots and cells, which are unread as long as they are not built, the home that is open, and the nodes of
-- it that are there so far.
pub record Building : Type 0 where
  pub graph : Graph
  pub home : Option Home
  pub nodes : List Flat
  pub op : ℕ
  pub side : Side
  pub interface : Interface
  pub given : Option Graph

abbrev pub building_code : Coded Building
building_code =
    code_by (Graph × (Option Home × (List Flat × (ℕ × (Side × (Interface × Option Graph))))))
    (coded× graph_code (coded× (coded_option homes.the_row.coded) (coded× (coded_list (coded× label_code coded_ℕ))
    (coded× coded_ℕ (coded× side.the_row.coded (coded× interface.the_row.coded (coded_option graph_code)))))))
    (λ b. (b.graph, (b.home, (b.nodes, (b.op, (b.side, (b.interface, b.given)))))))
    (λ p. record { graph = p.0; home = p.1.0; nodes = p.1.1.0; op = p.1.1.1.0; side = p.1.1.1.1.0; interface = p.1.1.1.1.1.0; given = p.1.1.1.1.1.1 })
    (λ _. refl)

abbrev pub start : Interface → ℕ → Side → Option Graph → Building
start i n s q = record { graph = record { roots = []; cells = [] }; home = None; nodes = []; op = n; side = s; interface = i; given = q }

-- a graph with the value of a home
abbrev pub put : Option Home → Tree → Graph → Graph
put None t g = g
put (Some (home.Root i)) t g = record { roots = slice_set g.roots i t; cells = g.cells }
put (Some (home.Cell c)) t g = record { roots = g.roots; cells = set_cell c.0 t g.cells }

-- the graph with the value of the home that is open
abbrev pub closed : Building → Graph
closed b = put b.home (tree_in b.nodes) b.graph

-- nothing is missing from the nodes of the open home
abbrev pub CanCloseAt : Option Home → List Flat → Type 0
CanCloseAt None fs = Unit {0}
CanCloseAt (Some h) fs = IsWhole fs

abbrev pub CanClose : Building → Type 0
CanClose b = CanCloseAt b.home b.nodes

-- a home is opened
abbrev pub opened : Home → Graph → Building → Building
opened h g b = record { graph = g; home = Some h; nodes = []; op = b.op; side = b.side; interface = b.interface; given = b.given }

-- a root more, unread
abbrev pub with_root : Graph → Graph
with_root g = record { roots = g.roots ++ unread ∷ []; cells = g.cells }

-- a cell more, unread
abbrev pub with_cell : ℕ → Graph → Graph
with_cell of g = record { roots = g.roots; cells = g.cells ++ record { of = of; val = unread } ∷ [] }

abbrev pub with_graph : Graph → Building → Building
with_graph g b = record { graph = g; home = b.home; nodes = b.nodes; op = b.op; side = b.side; interface = b.interface; given = b.given }

abbrev pub with_nodes : List Flat → Building → Building
with_nodes fs b = record { graph = b.graph; home = b.home; nodes = fs; op = b.op; side = b.side; interface = b.interface; given = b.given }

-- a node more
abbrev pub with_node : Flat → Building → Building
with_node f b = with_nodes (b.nodes ++ f ∷ []) b

-- numbers more
abbrev pub with_numbers : List ℤ → Building → Building
with_numbers zs b = with_nodes (b.nodes ++ num_flats zs) b

-- so many children more are due of the first node
abbrev pub raised : ℕ → List Flat → List Flat
raised k [] = []
raised k (f ∷ fs) = (f.0, f.1 + k) ∷ fs

-- the first node is a pipe that may have so many elements more
abbrev pub IsPipe : ℕ → List Flat → Type 0
IsPipe k [] = ⊥
IsPipe k (f ∷ fs) = (f.0 ≡ tree.Pipe) × (f.1 + k < 2 ^ 32)

-- what was built
abbrev pub fitting : Building → Fitting
fitting b = record { graph = closed b; op = b.op; side = b.side; interface = b.interface; given = b.given }

-- no home is unread
pub record HasNoUnread (g : Graph) : Type 0 where
  pub roots : AllByRecursion (λ (t : Tree). t ≡ unread → ⊥) g.roots
  pub cells : AllByRecursion (λ (x : Referent). x.val ≡ unread → ⊥) g.cells
