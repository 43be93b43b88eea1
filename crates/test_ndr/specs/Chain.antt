-- A chain of nodes: struct node { long v; [ptr] struct node *next; } under an operation ring([in, ptr] node *p).
use Rattle.std.specs.Prelude.{◌≡◌, List, Some}
use Rattle.std.specs.List.{AllByRecursion}
use Rattle.nd_value.specs.Tree as tree
use Rattle.nd_value.specs.Tree.{Tree, Referent, more, none, node_count}

-- a value of three nodes: the struct, its number and its pointer
abbrev pub IsNode : Referent → Type 0
IsNode x = node_count (more x.val none) ≡ 3

abbrev pub AreNodes : List Referent → Type 0
AreNodes xs = AllByRecursion IsNode xs

abbrev pub to_first : Tree
to_first = tree.node (tree.Ptr (Some 1)) none
