-- Paths of nodes, step by step.
-- `t` is a type's number, `v` a value, `ks` are the children of one, `n` is a node's number, `p` the path of the value, `q` that of the node.
use Rattle.std.specs.Prelude.{◌≡◌, ℕ, ◌+◌, ◌<◌, ◌≤◌, suc, List, [], ◌∷◌, Option, None, Some, take, replicate, map, ℤ}
use Rattle.std.specs.List.{slice_get}
use Rattle.nd_types.specs.declared.types.TypeDef.{TypeDef}
use Rattle.nd_types.specs.declared.types.TypeDef.TheVariants as def
use Rattle.nd_types.specs.declared.types.Field.{Field}
use Rattle.nd_types.specs.declared.types.Arm.{Arm}
use Rattle.nd_types.specs.Table.{Table, selected}
use Rattle.nd_value.specs.Tree.{Tree, Trees, more, none, trees, node_count, Referent}
use Rattle.nd_value.specs.Setting.{Among, cell_tree}
use Rattle.nd_value.specs.Seen.{tree_of}
use Rattle.text_printer.specs.declared.paths.Step.{Step}
use Rattle.text_printer.specs.declared.paths.Child.{Child}
use Rattle.text_grammar.specs.Paths.{node_paths, member_path, cell_types}

-- the node of number n of a value has the path q
abbrev pub HasPath : Table → ℕ → List ℕ → Tree → ℕ → List ℕ → Type 0
HasPath table t p v n q = Among (node_paths table (t ∷ []) (p ∷ []) 0 (more v none)) (n, q)

-- the same of the value of a cell, which has the path p also where the cell is not there
abbrev pub HasCellPath : Table → List ℕ → Option Referent → ℕ → List ℕ → Type 0
HasCellPath table p c n q = Among ((0, p) ∷ node_paths table (cell_types c) (p ∷ []) 0 (more (cell_tree c) none)) (n, q)

-- the same of values one after the other, whose nodes are numbered from 1
abbrev pub HaveChildPath : Table → List ℕ → List (List ℕ) → Trees → ℕ → List ℕ → Type 0
HaveChildPath table types paths ks n q = Among (node_paths table types paths 1 ks) (suc n, q)

-- A step to the child that has the n-th of the nodes of all children: its type, its value, and the node's number in it; p is its path.
-- Where there is no step, the node has no path.
abbrev pub IsChildStep : Table → List ℕ → List (List ℕ) → Trees → ℕ → List ℕ → Option (ℕ × Tree × ℕ) → Type 0
IsChildStep table types paths ks n p None = (q : List ℕ) → HaveChildPath table types paths ks n q → ⊥
IsChildStep table types paths ks n p (Some s) = ((q : List ℕ) → HaveChildPath table types paths ks n q → HasPath table s.0 p s.1 s.2 q) × (s.2 ≤ n)

-- the same from a value to one of its children
abbrev pub IsStep : Table → ℕ → Tree → ℕ → List ℕ → List ℕ → Option (ℕ × Tree × ℕ) → Type 0
IsStep table t v n p p' None = (q : List ℕ) → HasPath table t p v (suc n) q → ⊥
IsStep table t v n p p' (Some s) = ((q : List ℕ) → HasPath table t p v (suc n) q → HasPath table s.0 p' s.1 s.2 q) × (s.2 ≤ n)

-- the value that has the n-th of the nodes of values: its place, itself, and the node's number in it
abbrev pub IsChildAt : List Tree → ℕ → Option (ℕ × Tree × ℕ) → Type 0
IsChildAt vs n None = node_count (trees vs) ≤ n
IsChildAt vs n (Some s) = (slice_get vs s.0 ≡ Some s.1) × (n ≡ node_count (trees (take s.0 vs)) + s.2) × (s.2 < node_count (more s.1 none))

-- the types of elements of one type, if there is one
abbrev pub elem_types : Option ℕ → ℕ → List ℕ
elem_types None n = []
elem_types (Some t) n = replicate n t

-- the path of the value of an arm: with the arm's name, if it has one
abbrev pub arm_path : List ℕ → Option (List ℕ) → List ℕ
arm_path p None = p
arm_path p (Some name) = member_path p name

-- the members of a type that is a struct
abbrev pub struct_members : Option TypeDef → Option (List Field)
struct_members (Some (def.Struct members)) = Some members
struct_members _ = None

abbrev pub member_types : Option (List Field) → List ℕ
member_types None = []
member_types (Some members) = map (λ f. f.of.0) members

abbrev pub member_paths : List ℕ → Option (List Field) → List (List ℕ)
member_paths p None = []
member_paths p (Some members) = map (λ f. member_path p f.name) members

-- the arm that a tag selects, of a type that is a union
abbrev pub union_arm : Option TypeDef → ℤ → Option Arm
union_arm (Some (def.Union tag encapsulated arms default)) z = selected arms default z
union_arm _ z = None

-- what a step and a child of the program say
abbrev pub seen_step : Option Step → Option (ℕ × Tree × ℕ)
seen_step None = None
seen_step (Some s) = Some (s.of.0, tree_of s.val.now, s.node)

abbrev pub seen_child : Option Child → Option (ℕ × Tree × ℕ)
seen_child None = None
seen_child (Some c) = Some (c.at, tree_of c.val.now, c.node)
