-- How a graph is kept: the parts of all nodes in one list, and for each node the span of it.
use Rattle.std.specs.Prelude.{ℕ, ◌≤◌, ◌-◌, List, map, take, drop, length}
use Rattle.std.specs.List.{All}
use Rattle.idl_cycles.specs.declared.graph.Span.{Span}

abbrev pub row_at : List ℕ → Span → List ℕ
row_at parts span = take (span.end - span.start) (drop span.start parts)

abbrev pub rows_of : List ℕ → List Span → List (List ℕ)
rows_of parts spans = map (row_at parts) spans

pub record IsSpan (parts : List ℕ) (span : Span) : Type 0 where
  pub ordered : span.start ≤ span.end
  pub within : span.end ≤ length parts

abbrev pub AreSpans : List ℕ → List Span → Type 0
AreSpans parts spans = All (IsSpan parts) spans
