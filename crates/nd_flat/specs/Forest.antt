-- Lists of nodes that are trees.
-- `ts` and `us` are lists of trees, `fs` is a list of nodes, `f` a node, `l` a label, `ks` are children.
use Rattle.std.specs.Prelude.{◌≡◌, List}
use Rattle.std.specs.Coded.{Coded, code_by, coded_list, coded×, coded_ℕ}
use Rattle.nd_value.specs.Tree.{Tree, Trees, node, none, more, Unread, Flat, flat, unflat, unflat-of, label_code}

-- one list of trees differs from another by its nodes
abbrev pub forest_code : Coded Trees
forest_code = code_by (List Flat) (coded_list (coded× label_code coded_ℕ)) flat unflat unflat-of

-- the nodes of trees, none missing
abbrev pub IsForest : List Flat → Type 0
IsForest fs = flat (unflat fs) ≡ fs

-- the first of trees; unread where there is none
abbrev pub first_tree : Trees → Tree
first_tree none = node Unread none
first_tree (more t ts) = t

-- the tree whose nodes these are
abbrev pub tree_in : List Flat → Tree
tree_in fs = first_tree (unflat fs)

-- the nodes of one tree, none missing
abbrev pub IsWhole : List Flat → Type 0
IsWhole fs = fs ≡ flat (more (tree_in fs) none)
