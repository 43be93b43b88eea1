use Rattle.std.proofs.Common.{ℕ, ◌<◌, ◌≤◌, ◌^◌, ◌++◌, List}
use Rattle.nd_types.specs.Table.{type_at}
use Rattle.nd_value.specs.declared.item.Home.TheVariants as homes
use Rattle.nd_value.specs.Deferral.{Placed_cells}
use Rattle.nd_value.specs.Setting.{root_at}
use Rattle.nd_value.specs.Tree.{count}
use Rattle.nd_grammar.specs.Entry.{Entry}
use Rattle.nd_grammar.specs.Stream.{Cuts, kids_of, pipe_entries}
use Rattle.ndr_trace_value.specs.Untested.{untested}
use Rattle.ndr_trace.specs.Chunks.{IsAtChunk}
use Rattle.ndr_trace.specs.Homes.{IsRoot, IsPart}
use Rattle.ndr_trace_value.specs.Naming.{IsNaming, names_in}
use Rattle.ndr_trace_value.specs.Tracing.{IsGround, IsTracing, Known}
use Rattle.ndr_trace.proofs.pipes.walk_pipe.Given as goal

abbrev pub invariant-loop-chunk : goal.invariant-loop-chunk
invariant-loop-chunk l = record {
  many : l._chunk ≤ l.before;
  small : l.before < 2 ^ 32;
  taken : l.before ≤ l.walker.progress.next;
  here : (k : Known) → IsGround k l.ground → IsPart k → IsRoot k l.at l.root → (cut : List ℕ) → Cuts (count (kids_of (root_at k.graph l.at))) cut
      → (rest : List Entry) (names : Placed_cells)
      → IsTracing k l.fn.walker.progress (untested (pipe_entries k.setting.table (homes.Root l.at) (type_at k.setting.table l.root.of.0) cut (root_at k.graph l.at)) ++ rest)
      → IsNaming k l.fn.walker.cells (names_in (untested (pipe_entries k.setting.table (homes.Root l.at) (type_at k.setting.table l.root.of.0) cut (root_at k.graph l.at))) ++ names)
      → IsAtChunk k (homes.Root l.at) l.root.name.now l.elem.0 l.before rest names l.walker;
}
