-- The maximum count of a value, found along its nodes (C706 14.3.4: a maximum count is that of the last member, and so on).
-- `l` is a label, `p` is how many values are still to come, `fs` are the nodes to come.
use Rattle.std.specs.Prelude.{ℕ, ◌+◌, ◌-◌, ◌==◌, true, false, List, [], ◌∷◌, Option, Some, None}
use Rattle.nd_value.specs.Tree as tree
use Rattle.nd_value.specs.Tree.{Label, Flat}

-- the maximum count of a node that has one
abbrev pub own_count : Label → Option ℕ
own_count (tree.Arr max offset) = Some max
own_count (tree.Text max octets) = Some max
own_count _ = None

-- Where one value alone is still to come, the next node is the last part of all that is around it. The first such node with a maximum count has that
-- of the value.
abbrev pub last_max : ℕ → List Flat → ℕ
last_max p [] = 0
last_max p (f ∷ fs) =
    elim (p == 1) [
      | true ↦ elim (own_count f.0) [ Some m ↦ m | None ↦ last_max (p - 1 + f.1) fs ]
      | false ↦ last_max (p - 1 + f.1) fs
    ]
