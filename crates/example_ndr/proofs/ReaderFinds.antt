-- What the reader finds.
use Rattle.std.proofs.Common.{◌≡◌, ℕ, Some, None}
use Rattle.nd_value.specs.declared.value.Graph.{Graph}
use Rattle.nd_grammar.specs.declared.reason.Reason.{Reason}
use Rattle.nd_grammar.specs.StreamReader.{Found}

-- the octets up to a place are found to be a stream of this graph
abbrev pub IsFound : Found → Graph → ℕ → Type 0
IsFound f g n = (f.graph ≡ g) × ((f.progress.stop ≡ None) × (f.progress.at ≡ n))

-- the octets are refused at a place for a reason
abbrev pub IsStopped : Found → ℕ → Reason → Type 0
IsStopped f place why = f.progress.stop ≡ Some (place, why)
