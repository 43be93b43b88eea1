-- Values that have a text of their own: those that break no rule by themselves. Which cells their pointers name is not asked.
-- `t` is a type's number, `x` a node, `v` a value.
use Rattle.std.specs.Prelude.{◌≡◌, ℕ, Bool, true, ◌&&◌}
use Rattle.std.specs.List.{list_all}
use Rattle.nd_types.specs.Table.{Table, type_at, is_value}
use Rattle.nd_value.specs.Tree.{Tree}
use Rattle.nd_value.specs.Nodes.{TypedNode, home_nodes}
use Rattle.nd_value.specs.Misfit.{has_shape, has_range, has_counts, is_within, has_no_zero, has_arm}

-- a node has the form of its type, a number that its type has, counts within bounds, no zero in a text, and an arm that its tag selects
abbrev pub is_sound_node : Table → TypedNode → Bool
is_sound_node table x =
    let d = type_at table x.of in
    has_shape d x.label x.kids && has_range is_value table d x.label && has_counts d x.label x.kids && is_within x.label x.kids && has_no_zero x.label
    && has_arm d x.label

-- so is each node of a value of a type
abbrev pub IsSound : Table → ℕ → Tree → Type 0
IsSound table t v = list_all (is_sound_node table) (home_nodes table t v) ≡ true
