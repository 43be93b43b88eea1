-- How much of a value is left to a walk: the nodes, which go down with each that it passes, and the items that are still to come.
-- `table` is a table of types, `n` how deep types may nest, `t` a type's number, `d` what it stands for, `s` are the levels at which a walk is, `p`
-- and `p1` how far it came before and after a node's own items, `f` is what these say of the node, `ks` are its children.
use Rattle.std.specs.Prelude.{◌≡◌, ℕ, zero, suc, ◌+◌, ◌*◌, ◌^◌, ◌<◌, ◌≤◌, false, List, [], ◌∷◌, length, map, reverse, Option, None, Some}
use Rattle.nd_types.specs.declared.TheConstants.{NESTING_LIMIT}
use Rattle.nd_types.specs.declared.types.TypeDef.{TypeDef}
use Rattle.nd_types.specs.declared.types.TypeDef.TheVariants as def
use Rattle.nd_types.specs.Layout.{parts}
use Rattle.nd_types.specs.Table.{Table, type_at}
use Rattle.nd_value.specs.Nodes.{child_types}
use Rattle.nd_value.specs.Tree.{Flat, Trees, count}
use Rattle.ndr_explain.specs.declared.levels.Levels.{Levels}
use Rattle.ndr_explain.specs.Cursors.{level_types, types_from}
use Rattle.ndr_trace_value.specs.declared.progress.Progress.{Progress}

-- the sum of what f gives
abbrev pub total : (ℕ → ℕ) → List ℕ → ℕ
total f [] = 0
total f (t ∷ ts) = f t + total f ts

-- no value of a type that nests at most n deep has more nodes, where none of its nodes has more than 2^32 children of one type
abbrev pub most_within : ℕ → Table → ℕ → ℕ
most_within zero table t = 0
most_within (suc n) table t = 1 + 2 ^ 32 * total (most_within n table) (parts (type_at table t))

-- The same of a type of a legal table, where all types nest within the limit.
unfoldable pub most_nodes : Table → ℕ → ℕ
most_nodes table t = most_within NESTING_LIMIT table t

-- the nodes from the one on at which a walk is are no more
abbrev pub nodes_left : Table → Levels → ℕ
nodes_left table s = total (most_nodes table) (types_from s.top (reverse s.below.items))

-- A walk goes on from levels that are at a child, and fewer nodes are left to it; or it has ended.
abbrev pub GoesDown : Table → Levels → Option Levels → Type 0
GoesDown table s None = Unit {0}
GoesDown table s (Some m) = (0 < length (level_types m.top)) × (nodes_left table m < nodes_left table s)

-- ## Items

-- how many items a value of a type has at least, from how many those of the types of its parts have
abbrev pub least_by : (ℕ → ℕ) → Option TypeDef → ℕ
least_by least (Some (def.Struct members)) = total least (map (λ f. f.of.0) members)
least_by least (Some (def.Array elem (Some bound) false)) = least elem.0
least_by least (Some (def.Array elem None false)) = 0
least_by least (Some (def.Pipe elem)) = 0
least_by least None = 0
least_by least _ = 1

abbrev pub least_within : ℕ → Table → ℕ → ℕ
least_within zero table t = 0
least_within (suc n) table t = least_by (least_within n table) (type_at table t)

-- The same of a type of a legal table.
unfoldable pub least_items : Table → ℕ → ℕ
least_items table t = least_within NESTING_LIMIT table t

-- the values from the node on at which a walk is have at least so many
abbrev pub items_left : Table → Option Levels → ℕ
items_left table None = 0
items_left table (Some s) = total (least_items table) (types_from s.top (reverse s.below.items))

-- The items that were taken of a node, with the least that its children have, are at least those of its type.
abbrev pub HaveTaken : Table → ℕ → Flat → Progress → Progress → Type 0
HaveTaken table t f p p1 =
    (least : ℕ → ℕ) (ks : Trees) → count ks ≡ f.1
    → least_by least (type_at table t) + p.next ≤ total least (child_types (type_at table t) f.0 ks) + p1.next
