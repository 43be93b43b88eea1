-- The nodes of a value: each with its number, its type, and the agreements that govern it.
-- `t` is a type's number or a tree, `n` a node's number, `l` a node's label, `ks` are its children, `v` is a tag or a home's
-- own value.
use Rattle.std.specs.Prelude.{ℕ, ◌+◌, Bool, List, [], ◌∷◌, ◌++◌, Option, Some, None, replicate, map}
use Rattle.nd_types.specs.declared.types.TypeDef.{TypeDef}
use Rattle.nd_types.specs.declared.types.Arm.{Arm}
use Rattle.nd_types.specs.declared.types.TypeDef.TheVariants as def
use Rattle.nd_types.specs.Table.{Table, type_at, selected}
use Rattle.nd_types.specs.Layout.{arm_type}
use Rattle.nd_value.specs.Tree as tree
use Rattle.nd_value.specs.Tree.{Tree, Trees, node, none, more, count, node_count, Label}
use Rattle.nd_value.specs.Agreement.{Agreement, member_agreements}

-- the type of the arm that a tag selects, where it has one
abbrev pub selected_types : Option Arm → List ℕ
selected_types None = []
selected_types (Some a) = arm_type a

-- the types of the children of a node of a type
abbrev pub child_types : Option TypeDef → Label → Trees → List ℕ
child_types (Some (def.Struct members)) tree.Rec ks = map (λ f. f.of.0) members
child_types (Some (def.Array elem bound varying)) (tree.Arr max offset) ks = replicate (count ks) elem.0
child_types (Some (def.Union tag encapsulated arms default)) (tree.Union v) ks = selected_types (selected arms default v)
child_types (Some (def.Pipe elem)) tree.Pipe ks = replicate (count ks) elem.0
child_types _ _ ks = []

-- the agreements of each child: a struct's members have attributes
abbrev pub child_agreements : Option TypeDef → Trees → List (List Agreement)
child_agreements (Some (def.Struct members)) ks = map (λ f. member_agreements ks f.vars) members
child_agreements _ ks = []

-- the agreements of the first of values; none where no agreements are given
abbrev pub first_agreements : List (List Agreement) → List Agreement
first_agreements [] = []
first_agreements (a ∷ rest) = a

-- the agreements of the others
abbrev pub rest_agreements : List (List Agreement) → List (List Agreement)
rest_agreements [] = []
rest_agreements (a ∷ rest) = rest

-- A node where it stands: its number in its home (counted depth first, the home's own value being 0), its type, the
-- agreements of its own attributes, what it says itself, and its children.
pub record TypedNode : Type 0 where
  pub node : ℕ
  pub of : ℕ
  pub agreements : List Agreement
  pub label : Label
  pub kids : Trees

-- the nodes of values of these types, depth first, from number n on
abbrev pub nodes_of : Table → List ℕ → List (List Agreement) → ℕ → Trees → List TypedNode
nodes_of table types agreements n none = []
nodes_of table [] agreements n (more t ts) = []
nodes_of table (t ∷ types) agreements n (more (node l ks) ts) =
    record { node = n; of = t; agreements = first_agreements agreements; label = l; kids = ks }
    ∷ (nodes_of table (child_types (type_at table t) l ks) (child_agreements (type_at table t) ks) (n + 1) ks
    ++ nodes_of table types (rest_agreements agreements) (n + 1 + node_count ks) ts)

-- the nodes of a home whose own value is governed by some agreements
abbrev pub governed_nodes : Table → ℕ → List Agreement → Tree → List TypedNode
governed_nodes table t agreements v = nodes_of table (t ∷ []) (agreements ∷ []) 0 (more v none)

-- the nodes of a home whose own value is governed by none
abbrev pub home_nodes : Table → ℕ → Tree → List TypedNode
home_nodes table t v = nodes_of table (t ∷ []) [] 0 (more v none)
