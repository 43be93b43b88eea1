-- The roots of a side, and its pipes, as a search goes over them.
-- `p` is a plan, `f` a fit, `o` its operation, `k` the greatest count of a chunk, `x` the stream that is searched, `s` what is known so far.
use Rattle.std.specs.Prelude.{◌≡◌, ℕ, ◌+◌, List, [], drop, length, Some}
use Rattle.std.specs.List.{slice_get}
use Rattle.nd_types.specs.declared.types.Operation.{Operation}
use Rattle.nd_value.specs.Canon.{named_cells}
use Rattle.nd_value.specs.Deferral.{Step, Deferral, due_roots, before_pipes}
use Rattle.nd_value.specs.Fitting.{Fitting, IsFit}
use Rattle.nd_value.specs.Setting.{root_list}
use Rattle.ndr_code.specs.declared.plan.Plan.{Plan}
use Rattle.ndr_code.specs.Code.{pipe_at, line_at}
use Rattle.ndr_encoder_laws.specs.pieces.Heads.{standings}
use Rattle.ndr_encoder_laws.specs.turns.Roots.{home_turns, root_items}
use Rattle.ndr_encoder_laws.specs.chosen.Written.{pipe_turns}
use Rattle.ndr_encode.specs.declared.search.Search.{Search}
use Rattle.ndr_encode.specs.Search.{Stream, IsSearchable, IsSearched, ArePipes}
use Rattle.ndr_encode.specs.Work.{setting}

-- the stream of a fit, by its steps of deferral
abbrev pub stream_of : Fitting → Operation → List Step → Stream
stream_of f o steps = record {
  homes = home_turns f.interface.types (standings (setting f o) f.graph steps);
  pipes =
      pipe_turns (pipe_at f.interface.types f.interface.operations f.op o f.side) (before_pipes (root_list (setting f o))) 0
      (length (drop (before_pipes (root_list (setting f o))) (root_list (setting f o))));
  names = named_cells (setting f o) f.graph steps;
}

-- the stream that a fit has, and its operation
pub record HasStream (p : Plan) (k : ℕ) (f : Fitting) : Type 0 where
  pub fit : IsFit f
  pub operation : Operation
  pub is_there : slice_get f.interface.operations f.op ≡ Some operation
  pub steps : List Step
  pub deferral : Deferral (setting f operation) f.graph [] (due_roots 0 (before_pipes (root_list (setting f operation)))) steps
  pub searchable : IsSearchable p.code k f.graph (stream_of f operation steps)

-- the roots are next, from the line on
pub record BeginsRoots (p : Plan) (k : ℕ) (f : Fitting) (line : ℕ) (s : Search) : Type 0 where
  pub stream : HasStream p k f
  pub line_is : line ≡ line_at f.interface.types f.interface.operations f.op stream.operation f.side
  pub searched : IsSearched p.code k f.graph (stream_of f stream.operation stream.steps)
      (root_items (setting f stream.operation) 0 (before_pipes (root_list (setting f stream.operation)))) s
  pub pending : s.count.names.items ≡ []

-- they took their turns
abbrev pub RootsTaken : Plan → ℕ → Fitting → Search → Search → Type 0
RootsTaken p k f old new =
    (h : HasStream p k f) → old.count.names.items ≡ []
    → IsSearched p.code k f.graph (stream_of f h.operation h.steps)
    (root_items (setting f h.operation) 0 (before_pipes (root_list (setting f h.operation)))) old
    → IsSearched p.code k f.graph (stream_of f h.operation h.steps) [] new × (new.count.names.items ≡ [])

-- the pipes are next, from the line on, and from a root on
pub record BeginsPipes (p : Plan) (k : ℕ) (f : Fitting) (line next : ℕ) (s : Search) : Type 0 where
  pub stream : HasStream p k f
  pub line_is : line
      ≡ line_at f.interface.types f.interface.operations f.op stream.operation f.side + before_pipes (root_list (setting f stream.operation)) + 1
  pub next_is : next ≡ before_pipes (root_list (setting f stream.operation))
  pub searched : ArePipes p.code k f.graph (stream_of f stream.operation stream.steps) (stream_of f stream.operation stream.steps).pipes s

-- they took their turns
abbrev pub PipesTaken : Plan → ℕ → Fitting → Search → Search → Type 0
PipesTaken p k f old new =
    (h : HasStream p k f) → ArePipes p.code k f.graph (stream_of f h.operation h.steps) (stream_of f h.operation h.steps).pipes old
    → ArePipes p.code k f.graph (stream_of f h.operation h.steps) [] new
