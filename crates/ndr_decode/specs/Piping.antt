-- What reading pipes comes to.
-- `plan` is a plan, `w` a setting of its interface, `fetched` are the octets that were fetched and `noted` the items that were noted before the call,
-- `i` is the number of the pipe's root, `rs` are the roots after it, `roots` the values of those before it, `elem` is the type of its elements and
-- `run` their run, `k` the position, `m` the machine, `n` the machine after the call, `source` and `t` are what was seen of the source, the log and
-- the steps over it.
use Rattle.std.specs.Prelude.{◌≡◌, ◌≤◌, ℕ, ◌+◌, ◌*◌, zero, suc, List, [], ◌∷◌, ◌++◌, length, map, Option, Some, None, Result, Ok, Err}
use Rattle.std.specs.List.{slice_get}
use Rattle.nd_base.specs.declared.octets.Order.{Order}
use Rattle.nd_base.specs.declared.TheConstants.{STREAM_LIMIT}
use Rattle.nd_base.specs.Over.{SourceOver}
use Rattle.nd_types.specs.declared.types.Side.{Side}
use Rattle.nd_types.specs.declared.types.TypeId.{TypeId}
use Rattle.nd_types.specs.declared.types.TypeDef.TheVariants as def
use Rattle.nd_types.specs.Roots.{Root}
use Rattle.nd_types.specs.Table.{type_at}
use Rattle.nd_value.specs.declared.item.Home.TheVariants as home
use Rattle.nd_value.specs.declared.item.Item.{Item}
use Rattle.nd_value.specs.Setting.{Setting, cell_at}
use Rattle.nd_value.specs.Tree as tree
use Rattle.nd_value.specs.Tree.{Tree, Trees, count, flat}
use Rattle.nd_flat.specs.Building.{Building, CanClose, closed, opened, with_root}
use Rattle.nd_grammar.specs.Entry.{EntryAt}
use Rattle.nd_grammar.specs.LegalSide.{IsLegalSide}
use Rattle.nd_grammar.specs.Reader.{Names}
use Rattle.nd_grammar.specs.StreamReader.{Reading, graph_of}
use Rattle.ndr_code.specs.Code.{place_at}
use Rattle.ndr_code.specs.declared.instr.Instr.{Instr}
use Rattle.ndr_code.specs.declared.instr.Instr.TheVariants as op
use Rattle.ndr_code.specs.declared.lists.PlanLine.TheVariants as plan_line
use Rattle.ndr_code.specs.declared.plan.Plan.{Plan}
use Rattle.ndr_decoder_laws.specs.runs.Paid.{IsPaid}
use Rattle.ndr_decoder_state.specs.declared.fault.DecodeFault.{DecodeFault}
use Rattle.ndr_decoder_state.specs.declared.machine.Machine.{Machine}
use Rattle.ndr_decoder_state.specs.Seen.{state_of}
use Rattle.nd_grammar.specs.decoded.Verdict.{DecodingSeen, direct_roots}
use Rattle.ndr_decoder_laws.specs.stream.Calls.{Took}
use Rattle.ndr_decoder_laws.specs.stream.Parameters.{TestsPass, parameter_tests}
use Rattle.ndr_decoder_laws.specs.pipes.Pipes.{InPipe, InPipes, Position, at_chunk}
use Rattle.ndr_decoder_stream.specs.Chunks.{IsAt}
use Rattle.ndr_decoder_stream.specs.declared.stream.Stream.{Stream}
use Rattle.ndr_decoder_stream.specs.Ends.{HomeRan}
use Rattle.ndr_decoder_stream.specs.Seen.{between_of}
use Rattle.ndr_decoder_laws.specs.stream.Report.{the_stream}
use Rattle.ndr_decode.specs.Streaming.{FaultOf, IsSettingOf, Purpose, Stands, WasRead, cells_of}

-- what the graph is for
abbrev pub purpose_in : Machine → Purpose
purpose_in m = let b : Building = m.builder in record { op = b.op; side = b.side; interface = b.interface; given = b.given }

-- ## The code

-- the run at an address calls that of a pipe, whose elements have this run
pub record CallsPipe (code : List Instr) (at elem : ℕ) : Type 0 where
  pub run : ℕ
  pub call : slice_get code at ≡ Some (op.Call run)
  pub pipe : slice_get code run ≡ Some (op.Pipe elem)

-- a line is of a pipe of a side, whose elements have this run
pub record IsPipeLine (plan : Plan) (o : ℕ) (side : Side) (line elem : ℕ) : Type 0 where
  pub name : List ℕ
  pub at : ℕ
  pub entry : slice_get plan.entries line ≡ Some (plan_line.Entry o side name at)
  pub calls : CallsPipe plan.code at elem

-- or it is of none
abbrev pub ElementsRun : Plan → ℕ → Side → ℕ → Option ℕ → Type 0
ElementsRun plan o side line (Some elem) = IsPipeLine plan o side line elem
ElementsRun plan o side line None = (name : List ℕ) (at : ℕ) → slice_get plan.entries line ≡ Some (plan_line.Entry o side name at) → ⊥

-- a type is that of a pipe, whose elements have this type and this run
pub record IsPipeBy (plan : Plan) (w : Setting) (pipe : ℕ) (elem : TypeId) (run : ℕ) : Type 0 where
  pub table : w.table ≡ plan.tie.types
  pub there : type_at w.table pipe ≡ Some (def.Pipe elem)
  pub run_is : run ≡ place_at w.table elem.0

-- ## Between two pipes

-- The machine is before these pipes: the graph has the roots before them, and the home that is open is whole.
pub record IsBefore (w : Setting) (order : Order) (fetched : List ℕ) (noted : List Item) (direct : ℕ) (first : Names) (i : ℕ) (rs : List Root)
    (roots : List Tree) (k : Position) (m : Machine) : Type 0 where
  pub in_pipes : InPipes w order fetched noted direct first i rs roots k
  pub few : direct ≤ length (direct_roots w)
  pub at : m.at ≡ k.at
  pub cells : map (λ c. c.of) m.builder.graph.cells ≡ k.cells
  pub numbers : m.referents ≡ k.numbers
  pub within : k.at ≤ STREAM_LIMIT
  pub paid : 4 * length k.cells ≤ k.at + 4096
  pub whole : CanClose m.builder
  pub number : length m.builder.graph.roots ≡ i
  pub roots_are : (closed m.builder).roots ≡ roots
  pub values : (c : ℕ) → cell_at (closed m.builder) c ≡ cell_at (graph_of [] first) c

-- a pipe more was read
pub record PipeRead (w : Setting) (order : Order) (fetched : List ℕ) (noted : List Item) (direct : ℕ) (first : Names) (i : ℕ) (rs : List Root)
    (roots : List Tree) (cells : ℕ) (source : SourceOver) (t : DecodingSeen) (m : Machine) : Type 0 where
  pub octets : List ℕ
  pub items : List Item
  pub v : Tree
  pub k : Position
  pub before : IsBefore w order (fetched ++ octets) (noted ++ items) direct first (i + 1) rs (roots ++ v ∷ []) k m
  pub took : Took source t cells octets items m.cells

abbrev pub PipeComes : Setting → Order → List ℕ → List Item → ℕ → Names → ℕ → List Root → List Tree → ℕ → SourceOver → DecodingSeen → Machine
    → Result (Unit {0}) DecodeFault → Type 0
PipeComes w order fetched noted direct first i rs roots cells source t m (Ok u) =
    PipeRead w order fetched noted direct first i rs roots cells source t m
PipeComes w order fetched noted direct first i rs roots cells source t m (Err e) = FaultOf the_stream w order fetched noted cells source t e

-- the next pipe, whose elements have the run at an address
abbrev pub PipeReads : Plan → Order → ℕ → ℕ → Machine → SourceOver → DecodingSeen → Machine → Result (Unit {0}) DecodeFault → Type 0
PipeReads plan order i run m source t n result =
    (w : Setting) → IsLegalSide w
    → (fetched : List ℕ) (noted : List Item) (direct : ℕ) (first : Names) (r : Root) (rs : List Root) (roots : List Tree) (k : Position)
    (elem : TypeId)
    → IsPipeBy plan w r.of elem run → IsBefore w order fetched noted direct first i (r ∷ rs) roots k m
    → PipeComes w order fetched noted direct first i rs roots m.cells source t n result

-- The next pipe, whose elements have this run, is due.
pub record IsAtPipe (plan : Plan) (order : Order) (i run : ℕ) (m : Machine) : Type 0 where
  pub w : Setting
  pub legal : IsLegalSide w
  pub fetched : List ℕ
  pub noted : List Item
  pub direct : ℕ
  pub first : Names
  pub r : Root
  pub rs : List Root
  pub roots : List Tree
  pub k : Position
  pub elem : TypeId
  pub by_plan : IsPipeBy plan w r.of elem run
  pub before : IsBefore w order fetched noted direct first i (r ∷ rs) roots k m

-- ## Within a pipe

-- The machine is before a chunk of the pipe that is open, of which these elements were read. Before the pipe, whose root is the next, this was built.
pub record IsInPipe (w : Setting) (order : Order) (fetched : List ℕ) (noted : List Item) (direct : ℕ) (first : Names) (i : ℕ) (rs : List Root)
    (roots : List Tree) (elem : TypeId) (done : Trees) (k : Position) (m : Machine) : Type 0 where
  pub in_pipe : InPipe w order fetched noted direct first i rs roots elem done m.max_at 4 (at_chunk w order i elem done k) k
  pub few : direct ≤ length (direct_roots w)
  pub is_at : IsAt i k m
  pub paid : IsPaid (state_of m)
  pub nodes : m.builder.nodes ≡ (tree.Pipe, count done) ∷ flat done
  pub b : Building
  pub number : length b.graph.roots ≡ i
  pub roots_are : (closed b).roots ≡ roots
  pub values : (c : ℕ) → cell_at (closed b) c ≡ cell_at (graph_of [] first) c
  pub ran : HomeRan (opened (home.Root (length b.graph.roots)) (with_root (closed b)) b) m.builder

-- so many elements of the pipe were read
pub record ElementsRead (w : Setting) (order : Order) (fetched : List ℕ) (noted : List Item) (direct : ℕ) (first : Names) (i : ℕ) (rs : List Root)
    (roots : List Tree) (elem : TypeId) (cells : ℕ) (source : SourceOver) (t : DecodingSeen) (m : Machine) (many : ℕ) : Type 0 where
  pub octets : List ℕ
  pub items : List Item
  pub done : Trees
  pub k : Position
  pub in_pipe : IsInPipe w order (fetched ++ octets) (noted ++ items) direct first i rs roots elem done k m
  pub as_many : count done ≡ many
  pub took : Took source t cells octets items m.cells

-- after a chunk of no elements the pipe was read, after another one the pipe has so many more
abbrev pub ChunkComes : Setting → Order → List ℕ → List Item → ℕ → Names → ℕ → List Root → List Tree → TypeId → ℕ → ℕ → SourceOver → DecodingSeen
    → Machine → Result ℕ DecodeFault → Type 0
ChunkComes w order fetched noted direct first i rs roots elem so_far cells source t m (Ok zero) =
    PipeRead w order fetched noted direct first i rs roots cells source t m
ChunkComes w order fetched noted direct first i rs roots elem so_far cells source t m (Ok (suc c)) =
    ElementsRead w order fetched noted direct first i rs roots elem cells source t m (so_far + suc c)
ChunkComes w order fetched noted direct first i rs roots elem so_far cells source t m (Err e) =
    FaultOf the_stream w order fetched noted cells source t e

-- the next chunk
abbrev pub ChunkReads : Plan → Order → ℕ → ℕ → ℕ → Machine → SourceOver → DecodingSeen → Machine → Result ℕ DecodeFault → Type 0
ChunkReads plan order i run so_far m source t n result =
    (w : Setting) → IsLegalSide w
    → (fetched : List ℕ) (noted : List Item) (direct : ℕ) (first : Names) (r : Root) (rs : List Root) (roots : List Tree) (elem : TypeId)
    (done : Trees) (k : Position)
    → IsPipeBy plan w r.of elem run → count done ≡ so_far → IsInPipe w order fetched noted direct first i rs roots elem done k m
    → ChunkComes w order fetched noted direct first i rs roots elem so_far m.cells source t n result

-- The next chunk of a pipe that has so many elements so far is due.
pub record IsAtChunk (plan : Plan) (order : Order) (i run so_far : ℕ) (m : Machine) : Type 0 where
  pub w : Setting
  pub legal : IsLegalSide w
  pub fetched : List ℕ
  pub noted : List Item
  pub direct : ℕ
  pub first : Names
  pub r : Root
  pub rs : List Root
  pub roots : List Tree
  pub elem : TypeId
  pub done : Trees
  pub k : Position
  pub by_plan : IsPipeBy plan w r.of elem run
  pub as_many : count done ≡ so_far
  pub in_pipe : IsInPipe w order fetched noted direct first i rs roots elem done k m

-- ## All pipes

-- The stream is before its pipes: no referent is due, all other roots were read, and the agreements of the parameters hold.
pub record IsAtPipes (plan : Plan) (o : ℕ) (side : Side) (order : Order) (x : Stream) : Type 0 where
  pub w : Setting
  pub legal : IsLegalSide w
  pub setting : IsSettingOf plan o side w
  pub fetched : List ℕ
  pub noted : List Item
  pub direct : ℕ
  pub s : Reading
  pub seen : List EntryAt
  pub stands : Stands w legal order fetched noted direct x s seen [] 0
  pub hold : TestsPass w order fetched noted direct (between_of x) s seen (parameter_tests w s)

-- the stream was read to its end, or a fault came
abbrev pub EndComes : Setting → Order → List ℕ → List Item → ℕ → SourceOver → DecodingSeen → Stream → Result (Unit {0}) DecodeFault → Type 0
EndComes w order fetched noted cells source t y (Ok u) = WasRead w order fetched noted cells source t y
EndComes w order fetched noted cells source t y (Err e) = FaultOf the_stream w order fetched noted cells source t e

-- all pipes of a side
abbrev pub StreamEnds : Plan → ℕ → Side → Order → Stream → SourceOver → DecodingSeen → Stream → Result (Unit {0}) DecodeFault → Type 0
StreamEnds plan o side order x source t y result =
    (w : Setting) (legal : IsLegalSide w) (fetched : List ℕ) (noted : List Item) (direct : ℕ) (s : Reading) (seen : List EntryAt)
    → IsSettingOf plan o side w
    → Stands w legal order fetched noted direct x s seen [] 0 → TestsPass w order fetched noted direct (between_of x) s seen (parameter_tests w s)
    → EndComes w order fetched noted (cells_of x) source t y result
