-- The first node of each child among the nodes of a home, and what an agreement finds in such a node alone.
use Rattle.std.specs.Prelude.{ℕ, ◌+◌, zero, suc, ℤ, pos, ◌-ℤ◌, List, [], ◌∷◌, length, Option, Some, None}
use Rattle.nd_types.specs.declared.types.Attr.{Attr}
use Rattle.nd_types.specs.declared.types.Attr.TheVariants as attr
use Rattle.nd_value.specs.Tree as tree
use Rattle.nd_value.specs.Tree.{Tree, Trees, node, none, more, Label, Flat, count}
use Rattle.nd_value.specs.Agreement.{max_of, offset_of, tag_of}
use Rattle.nd_grammar.specs.Reader.{tree_nodes}

-- the numbers of the first nodes of trees, of which the first is node n
abbrev pub first_nodes : ℕ → Trees → List ℕ
first_nodes n none = []
first_nodes n (more t ts) = n ∷ first_nodes (n + tree_nodes t) ts

abbrev pub tree_at : Trees → ℕ → Option Tree
tree_at none i = None
tree_at (more t ts) zero = Some t
tree_at (more t ts) (suc i) = tree_at ts i

-- a tree's first node
abbrev pub top : Tree → Flat
top (node l ks) = (l, count ks)

abbrev pub top_of : Option Tree → Option Flat
top_of None = None
top_of (Some t) = Some (top t)

-- the number in a node
abbrev pub flat_number : Flat → Option ℤ
flat_number (tree.Num z, c) = Some z
flat_number _ = None

abbrev pub flat_actual : Label → ℕ → ℕ
flat_actual (tree.Text max octets) c = length octets + 1
flat_actual _ c = c

-- what an attribute finds in a node
abbrev pub flat_found : Attr → Flat → ℤ
flat_found attr.Size x = pos (max_of x.0)
flat_found attr.Max x = pos (max_of x.0)
flat_found attr.First x = pos (offset_of x.0)
flat_found attr.Length x = pos (flat_actual x.0 x.1)
flat_found attr.Last x = pos (offset_of x.0 + flat_actual x.0 x.1) -ℤ pos 1
flat_found attr.Switch x = tag_of x.0
