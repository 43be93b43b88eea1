-- What a walk over the roots of a side comes to.
-- `k` are the octets with the partial graph in which they are refused, `u` is what the walk is given, or the walk, `p` how far it came, `i` is the
-- index of a root, `cuts` are the counts of the chunks of pipes.
use Rattle.std.specs.Prelude.{◌≡◌, ◌⊎◌, ◌≤◌, ◌-◌, ℕ, List, [], ◌++◌, drop, Option, None, Some, codes}
use Rattle.std.specs.List.{slice_get}
use Rattle.nd_types.specs.declared.types.Operation.{Operation}
use Rattle.nd_value.specs.declared.value.Graph.{Graph}
use Rattle.nd_value.specs.Deferral.{before_pipes, due_roots}
use Rattle.nd_value.specs.Fitting.{setting_beside}
use Rattle.nd_value.specs.Setting.{root_list}
use Rattle.nd_grammar.specs.Entry.{Entry, end_to_end, full_cells}
use Rattle.nd_grammar.specs.Stream.{AllCut, Stream, pipes_entries}
use Rattle.ndr_decoder_laws.specs.verdict.InOrder.{HasOwnNumbers}
use Rattle.ndr_trace_value.specs.Due.{Stops}
use Rattle.ndr_trace_value.specs.Untested.{untested}
use Rattle.ndr_trace_value.specs.declared.nodes.Walker.{Walker}
use Rattle.ndr_trace_value.specs.declared.progress.Ground.{Ground}
use Rattle.ndr_trace_value.specs.declared.progress.Progress.{Progress}
use Rattle.ndr_trace_value.specs.declared.search.Sought.{Sought}
use Rattle.ndr_trace_value.specs.Attributes.{IsKeptName, IsOwnName, IsPointedName, IsPointedPath}
use Rattle.ndr_trace.specs.Homes.{IsAwaiting}
use Rattle.ndr_trace_value.specs.Naming.{IsNaming, names_in}
use Rattle.ndr_trace_value.specs.Tracing.{IsTracing, Known}

-- the side whose roots are walked over
pub record IsSide (k : Known) (u : Ground) : Type 0 where
  pub operation : Operation
  pub there : slice_get u.interface.now.operations u.op ≡ Some operation
  pub request : Option Graph
  pub setting : k.setting ≡ setting_beside u.interface.now operation u.side request

-- a stream of the graph, whose cells have their own numbers, and in whose entries the octets are refused
pub record IsStream (k : Known) : Type 0 where
  pub entries : List Entry
  pub stream : Stream k.setting k.graph entries
  pub own : HasOwnNumbers k.graph entries
  pub full : full_cells entries ≡ k.full
  pub due : Stops k.order k.fetched k.numbering k.here (end_to_end 0 (untested entries)) k.log

-- the entries of the pipes from a root on, agreements apart
abbrev pub pipes_due : Known → ℕ → List (List ℕ) → List Entry
pipes_due k i cuts = untested (pipes_entries k.setting.table i (drop i (root_list k.setting)) (drop i k.graph.roots) cuts)

-- The roots from one on are due that are no pipes, and then the pipes.
pub record IsBeforePipes (k : Known) (u : Walker) (i : ℕ) (cuts : List (List ℕ)) : Type 0 where
  pub before : i ≤ before_pipes (root_list k.setting)
  pub none_pending : u.cells.pending.items ≡ []
  pub awaiting : IsAwaiting k u (due_roots i (before_pipes (root_list k.setting) - i)) (pipes_due k (before_pipes (root_list k.setting)) cuts)
      (names_in (pipes_due k (before_pipes (root_list k.setting)) cuts))
  pub all_cut : AllCut (drop (before_pipes (root_list k.setting)) k.graph.roots) cuts

-- The pipes from one on are due.
pub record IsAtPipes (k : Known) (u : Walker) (i : ℕ) (cuts : List (List ℕ)) : Type 0 where
  pub past : before_pipes (root_list k.setting) ≤ i
  pub tracing : IsTracing k u.progress (pipes_due k i cuts)
  pub naming : IsNaming k u.cells (names_in (pipes_due k i cuts))
  pub all_cut : AllCut (drop i k.graph.roots) cuts

-- the roots from one on are due
abbrev pub IsAtRoot : Known → Walker → ℕ → Type 0
IsAtRoot k u i = (cuts : List (List ℕ)) × (IsBeforePipes k u i cuts ⊎ IsAtPipes k u i cuts)

-- a walk at its beginning
pub record IsBeginning (u : Walker) : Type 0 where
  pub next : u.progress.next ≡ 0
  pub at : u.progress.at ≡ 0
  pub lines : u.progress.lines ≡ []
  pub path : u.progress.path ≡ []
  pub variable : u.progress.variable ≡ []
  pub from : u.progress.from ≡ None
  pub count : u.cells.count ≡ 0
  pub numbers : u.cells.numbers ≡ []
  pub none_pending : u.cells.pending.items ≡ []
  pub unmarked : u.cells.stands.items ≡ []

-- the path that is shown: that at which a walk ended; where an agreement is sought a blank and the variable follow
abbrev pub IsFinished : Ground → Option Sought → Progress → List ℕ → Type 0
IsFinished u None p shown = shown ≡ p.path
IsFinished u (Some s) p shown =
    (variable : List ℕ) × IsOwnName u s variable × IsKeptName u s p.variable variable × IsPointedName u s p.from p.variable variable
    × IsPointedPath u s p.from p.variable variable × (shown ≡ p.path ++ (codes " " ++ variable))
