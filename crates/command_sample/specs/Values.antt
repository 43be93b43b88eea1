-- The values of nodes, and their sum. `t` is a tree, `l` a label, `xs` are cells.
use Rattle.std.specs.Prelude.{ℕ, ◌+◌, ℤ, pos, negsuc, if◌then◌else◌, nat_lt, List, [], ◌∷◌}
use Rattle.nd_value.specs.Tree as tree
use Rattle.nd_value.specs.Tree.{Tree, Label, Referent, node, none, more}

-- a number from 0 to 999, and 0 for any other
abbrev pub small : ℤ → ℕ
small (pos v) = if nat_lt v 1000 then v else 0
small (negsuc v) = 0

-- the same of a label that is a number, and 0 of any other
abbrev pub small_in : Label → ℕ
small_in (tree.Num z) = small z
small_in _ = 0

-- the value of a node: that of its first member
abbrev pub value_of : Tree → ℕ
value_of (node l none) = 0
value_of (node l (more (node k ks) ts)) = small_in k

-- the sum of the values of cells
abbrev pub values_sum : List Referent → ℕ
values_sum [] = 0
values_sum (x ∷ xs) = value_of x.val + values_sum xs
