use Rattle.std.proofs.Common.{◌≡◌, ℕ, false, length, slice_index_or}
use Rattle.idl_cycles.specs.Graph.{has_within}
use Rattle.idl_cycles.proofs.graph.rounds.properties.Given as goal

abbrev pub invariant-loop : goal.invariant-loop
invariant-loop l =
    (length l.values.items ≡ length l.rules) × (length l.next.items ≡ length l.rules)
    × ((node : ℕ) → slice_index_or l.values.items node false ≡ has_within l.counter l.graph l.rules node)
