-- A round's values.
use Rattle.std.specs.Prelude.{ℕ, ◌≡◌, ◌<◌, Bool, false, List, slice_index_or}
use Rattle.idl_cycles.specs.declared.graph.rounds.Rule.{Rule}
use Rattle.idl_cycles.specs.Graph.{parts_at, rule_at, has_by}

-- what has no value does not have the property
abbrev pub value_in : List Bool → ℕ → Bool
value_in values node = slice_index_or values node false

-- the values of the next round, of nodes below a limit
abbrev pub IsRound : List (List ℕ) → List Rule → List Bool → ℕ → List Bool → Type 0
IsRound graph rules values limit next =
    (node : ℕ) → node < limit → slice_index_or next node false ≡ has_by (rule_at rules node) (value_in values) (parts_at graph node)
