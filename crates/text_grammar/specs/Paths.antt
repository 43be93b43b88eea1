-- Where a node of a graph is, in words: the path from its root or cell.
-- `w` is a setting, `g` a graph, `t` a type's number, `p` a path, `n` a node's number, `l` a node's label, `ks` are its children.
use Rattle.std.specs.Prelude.{ℕ, ◌+◌, List, [], ◌∷◌, ◌++◌, map, Option, None, Some, codes, decimal}
use Rattle.std.specs.List.{slice_get}
use Rattle.nd_types.specs.declared.types.TypeDef.{TypeDef}
use Rattle.nd_types.specs.declared.types.TypeDef.TheVariants as def
use Rattle.nd_types.specs.declared.types.Arm.{Arm}
use Rattle.nd_types.specs.Table.{Table, type_at, selected}
use Rattle.nd_value.specs.declared.value.Graph.{Graph}
use Rattle.nd_value.specs.declared.item.Home.{Home}
use Rattle.nd_value.specs.declared.item.Home.TheVariants as home
use Rattle.nd_value.specs.Tree as tree
use Rattle.nd_value.specs.Tree.{Tree, Trees, node, none, more, node_count, Label, Referent}
use Rattle.nd_value.specs.Nodes.{child_types}
use Rattle.nd_value.specs.Setting.{Setting, Among, root_list, root_at, cell_at, cell_of_number}
use Rattle.nd_types.specs.Roots.{Root}
use Rattle.text_grammar.specs.Written.{root_name}

abbrev pub member_path : List ℕ → List ℕ → List ℕ
member_path p name = p ++ (codes "." ++ name)

abbrev pub element_path : List ℕ → ℕ → List ℕ
element_path p i = p ++ (codes "[" ++ (decimal i ++ codes "]"))

-- the paths of elements, from an index on
abbrev pub element_paths : List ℕ → ℕ → Trees → List (List ℕ)
element_paths p i none = []
element_paths p i (more k ks) = element_path p i ∷ element_paths p (i + 1) ks

-- the path of the value of an arm, which is named as a member is
abbrev pub arm_paths : List ℕ → Option Arm → List (List ℕ)
arm_paths p None = []
arm_paths p (Some a) = elim a.name [ None ↦ p ∷ [] | Some name ↦ member_path p name ∷ [] ]

-- the paths of a node's children: members by name, elements by their index in the array, which counts from its offset
abbrev pub child_paths : Option TypeDef → Label → List ℕ → Trees → List (List ℕ)
child_paths (Some (def.Struct members)) tree.Rec p ks = map (λ f. member_path p f.name) members
child_paths (Some (def.Array elem bound varying)) (tree.Arr max offset) p ks = element_paths p offset ks
child_paths (Some (def.Union tag encapsulated arms default)) (tree.Union z) p ks = arm_paths p (selected arms default z)
child_paths (Some (def.Pipe elem)) tree.Pipe p ks = element_paths p 0 ks
child_paths _ _ p ks = []

-- the nodes of values of these types and with these paths, depth first and from number n on: each with its number and its path
abbrev pub node_paths : Table → List ℕ → List (List ℕ) → ℕ → Trees → List (ℕ × List ℕ)
node_paths table (t ∷ types) (p ∷ paths) n (more (node l ks) ts) =
    (n, p)
    ∷ (node_paths table (child_types (type_at table t) l ks) (child_paths (type_at table t) l p ks) (n + 1) ks
    ++ node_paths table types paths (n + 1 + node_count ks) ts)
node_paths table _ _ n _ = []

-- a root by its name, and one past those of the side by the word `root`; a cell by its number
abbrev pub home_name : Setting → Home → List ℕ
home_name w (home.Root i) = elim (slice_get (root_list w) i) [ None ↦ codes "root" | Some r ↦ root_name w.op.params r ]
home_name w (home.Cell c) = 64 ∷ decimal c.0

-- the types of a home's own value, where it has one
abbrev pub root_types : Option Root → List ℕ
root_types None = []
root_types (Some r) = r.of ∷ []

abbrev pub cell_types : Option Referent → List ℕ
cell_types None = []
cell_types (Some c) = c.of ∷ []

abbrev pub home_types : Setting → Graph → Home → List ℕ
home_types w g (home.Root i) = root_types (slice_get (root_list w) i)
home_types w g (home.Cell c) = cell_types (cell_of_number g c.0)

-- the value of a home, unread where there is none
abbrev pub home_value : Graph → Home → Tree
home_value g (home.Root i) = root_at g i
home_value g (home.Cell c) = cell_at g c.0

-- The path of a node. The home's own value, node 0, has the home's name, also where the home is not there; other nodes have a path
-- where those before them have the forms of their types.
abbrev pub IsPath : Setting → Graph → Home → ℕ → List ℕ → Type 0
IsPath w g h n p =
    Among ((0, home_name w h) ∷ node_paths w.table (home_types w g h) (home_name w h ∷ []) 0 (more (home_value g h) none)) (n, p)
