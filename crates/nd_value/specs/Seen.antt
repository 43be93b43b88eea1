-- The tree that a value of the program is.
-- `vs` are the trees of its members or elements, `c` is a cell or its number.
use Rattle.std.specs.Prelude.{ℕ, ℤ, List, [], ◌∷◌, Option, Some, None, map}
use Rattle.std.specs.declared.boxed.Box.{Box}
use Rattle.std.specs.declared.alloc.Global.{Global}
use Rattle.nd_value.specs.declared.value.CellId.{CellId}
use Rattle.nd_value.specs.declared.value.Val.{Val}
use Rattle.nd_value.specs.declared.value.Val.TheVariants.{Num, Rec, Arr, Text, Union, Ptr, Context, Pipe}
use Rattle.nd_value.specs.declared.value.Cell.{Cell}
use Rattle.nd_value.specs.Tree as tree
use Rattle.nd_value.specs.Tree.{Referent}
use Rattle.nd_value.specs.Tree.{Tree, Trees, node, none, more, trees}

-- the cell that a pointer names, by its number
abbrev pub cell_number : Option CellId → Option ℕ
cell_number None = None
cell_number (Some c) = Some c.0

-- the tree of a value: its own label, and its children, which are seen as trees already
abbrev pub tree_of : Val → Tree
tree_of (Num z) = node (tree.Num z) none
tree_of (Rec vs) = node tree.Rec (trees vs)
tree_of (Arr max offset vs) = node (tree.Arr max offset) (trees vs)
tree_of (Text max octets) = node (tree.Text max octets) none
tree_of (Union tag arm) = node (tree.Union tag) (trees arm)
tree_of (Ptr cell) = node (tree.Ptr (cell_number cell)) none
tree_of (Context attributes id) = node (tree.Context attributes id) none
tree_of (Pipe vs) = node tree.Pipe (trees vs)

-- the tree of a union's arm, where it is there
abbrev pub arm_trees : Option (Box Val Global) → List Tree
arm_trees None = []
arm_trees (Some b) = tree_of b.value ∷ []

-- a cell: its type's number, and the tree of its value
abbrev pub cell_of : Cell → Referent
cell_of c = record { of = c.of.0; val = tree_of c.val }
