-- The canonical form of a fit.
-- `f` is a fit, `c` its canonical form, `k` a cell's number.
use Rattle.std.specs.Prelude.{◌≡◌, ℕ, ◌<◌, ◌≤◌, List, length}
use Rattle.nd_value.specs.Canon.{canonical_number, Same}
use Rattle.nd_value.specs.Fitting.{Fitting}
use Rattle.nd_graph.specs.Naming.{AreNamed}

-- The same graph, of the same side of the same operation and beside the same request, with its cells numbered from 1 in the order in
-- which they are first named.
pub record IsCanonical (f c : Fitting) : Type 0 where
  pub op : c.op ≡ f.op
  pub side : c.side ≡ f.side
  pub interface : c.interface ≡ f.interface
  pub given : c.given ≡ f.given
  pub names : List ℕ
  pub named : AreNamed f.graph names
  pub same : Same f.graph c.graph
  pub numbered : (k : ℕ) → 0 < k → k ≤ length f.graph.cells → same.image k ≡ canonical_number names k
