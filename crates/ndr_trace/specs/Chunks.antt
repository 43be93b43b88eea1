-- Where a walk over a pipe is, between its chunks.
-- `k` are the octets with the partial graph in which they are refused, `h` is the pipe's home, `name` its name, `t` the type of its elements,
-- `before` how many elements came before, `rest` are the entries after the pipe's, `names` the cells that these name.
use Rattle.std.specs.Prelude.{◌≡◌, ◌+◌, ℕ, zero, suc, List, ◌++◌, replicate}
use Rattle.nd_value.specs.declared.item.Home.{Home}
use Rattle.nd_value.specs.Deferral.{Placed_cells}
use Rattle.nd_value.specs.Tree.{Trees, count}
use Rattle.nd_grammar.specs.Entry.{Entry}
use Rattle.nd_grammar.specs.Stream.{Cuts, chunks}
use Rattle.ndr_explain.specs.Cursors.{index_paths, no_places}
use Rattle.ndr_explain.specs.Explained.{home_paths, path_in}
use Rattle.ndr_trace_value.specs.Untested.{untested}
use Rattle.ndr_trace_value.specs.declared.nodes.Walker.{Walker}
use Rattle.ndr_trace_value.specs.Naming.{IsNaming, names_in}
use Rattle.ndr_trace_value.specs.Tracing.{IsTracing, Known}
use Rattle.ndr_trace_value.specs.Walking.{AreThere}

-- The chunks of the elements that are left are due, and then others.
pub record IsAtChunk (k : Known) (h : Home) (name : List ℕ) (t before : ℕ) (rest : List Entry) (names : Placed_cells) (u : Walker) : Type 0 where
  pub own_path : path_in (home_paths k.setting k.graph h) 0 ≡ name
  pub node : ℕ
  pub cut : List ℕ
  pub left : Trees
  pub cuts : Cuts (count left) cut
  pub there : AreThere k h 0 (replicate (count left) t) (index_paths name before (count left)) (no_places (replicate (count left) t)) node left
  pub tracing : IsTracing k u.progress (untested (chunks k.setting.table h t node cut left) ++ rest)
  pub naming : IsNaming k u.cells (names_in (untested (chunks k.setting.table h t node cut left)) ++ names)

-- what comes after a chunk of so many elements: after one of none, the end of the pipe
abbrev pub AfterChunk : Known → Home → List ℕ → ℕ → ℕ → List Entry → Placed_cells → Walker → ℕ → Type 0
AfterChunk k h name t before rest names u zero = IsTracing k u.progress rest × IsNaming k u.cells names
AfterChunk k h name t before rest names u (suc n) = IsAtChunk k h name t (before + suc n) rest names u
