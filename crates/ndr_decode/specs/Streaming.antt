-- What a call of the decoder comes to, over the roots and referents of a stream.
-- `reach` is what is read of a stream, `plan` is a plan, `w` a setting of its interface, `fetched` are the octets that were fetched and `noted` the
-- items that were noted before the call, `x` is what is kept of the stream after it, `source` and `t` are what was seen of the source, the log and
-- the steps over it, `n` is how many cells there were.
use Rattle.std.specs.Prelude.{◌≡◌, ◌≤◌, ℕ, ◌+◌, ◌*◌, suc, List, [], ◌∷◌, ◌++◌, length, Option, Some, None, Result, Ok, Err}
use Rattle.std.specs.List.{slice_get}
use Rattle.nd_base.specs.declared.octets.Order.{Order}
use Rattle.nd_base.specs.declared.TheConstants.{STREAM_LIMIT}
use Rattle.nd_base.specs.Over.{SourceOver, HasRisen}
use Rattle.nd_types.specs.Number.{AreOctets}
use Rattle.nd_types.specs.declared.interface.Interface.{Interface}
use Rattle.nd_types.specs.declared.types.Side.{Side}
use Rattle.nd_value.specs.declared.value.Graph.{Graph}
use Rattle.nd_types.specs.Roots.{Root}
use Rattle.nd_types.specs.Table.{Table, type_at}
use Rattle.nd_value.specs.declared.item.Home.{Home}
use Rattle.nd_value.specs.declared.item.Item.{Item}
use Rattle.nd_value.specs.Deferral.{Pending}
use Rattle.nd_value.specs.Setting.{Setting, root_list}
use Rattle.nd_grammar.specs.Entry.{EntryAt}
use Rattle.nd_grammar.specs.LegalSide.{IsLegalSide}
use Rattle.nd_grammar.specs.Reader.{Read}
use Rattle.nd_grammar.specs.Items.{items as items_of}
use Rattle.nd_grammar.specs.StreamReader.{Reading, read_stream}
use Rattle.ndr_decoder_laws.specs.reader.Around.{going}
use Rattle.ndr_code.specs.Code.{root_by}
use Rattle.ndr_code.specs.declared.instr.Instr.{Instr}
use Rattle.ndr_code.specs.declared.plan.Plan.{Plan}
use Rattle.ndr_decoder_state.specs.declared.machine.Owed as code
use Rattle.ndr_decoder_state.specs.declared.fault.DecodeFault.{DecodeFault}
use Rattle.ndr_decoder_state.specs.declared.fault.DecodeFault.TheVariants as fault
use Rattle.ndr_decoder_laws.specs.steps.Good.{Whole}
use Rattle.ndr_decoder_laws.specs.steps.Steps.{State}
use Rattle.nd_grammar.specs.decoded.Verdict.{DecodingSeen}
use Rattle.ndr_decoder_laws.specs.stream.Between.{Agrees, AreNeeded, Between}
use Rattle.ndr_decoder_laws.specs.stream.Calls.{Took, Refused, CutOff, Unread}
use Rattle.ndr_decoder_laws.specs.stream.Report.{Extent, the_head}
use Rattle.ndr_decoder_stream.specs.declared.stream.Stream.{Stream}
use Rattle.ndr_decoder_stream.specs.Seen.{between_of, pending_with}
use Rattle.ndr_decode.specs.declared.roots.Found.{Found}
use Rattle.nd_flat.specs.Building.{Building, CanClose, closed}

-- how many cells have their numbers
abbrev pub cells_of : Stream → ℕ
cells_of x = length x.machine.builder.graph.cells

-- what the graph is for
pub record Purpose : Type 0 where
  pub op : ℕ
  pub side : Side
  pub interface : Interface
  pub given : Option Graph

abbrev pub purpose_of : Stream → Purpose
purpose_of x = let b : Building = x.machine.builder in record { op = b.op; side = b.side; interface = b.interface; given = b.given }

-- what is kept of the stream, with the next of the pending referents, if it was taken from those that are kept
abbrev pub with_taken : Option code.Owed → Stream → Between
with_taken q x =
    let b : Between = between_of x in
    record {
      at = b.at;
      pending = pending_with q x.wanted.items x.todo.items;
      cells = b.cells;
      numbers = b.numbers;
      roots = b.roots;
      read = b.read;
      graph = b.graph;
    }

abbrev pub with_next : code.Owed → Stream → Between
with_next o x = with_taken (Some o) x

-- for each referent that became pending, from here to there, four octets were read
abbrev pub ArePaid : Stream → Option code.Owed → Stream → Type 0
ArePaid x q y = 4 * length (with_taken q y).pending + x.machine.at ≤ 4 * length (with_taken None x).pending + y.machine.at

-- What is kept of the stream is right, with the referent that was taken: so many roots that are no pipes are left, and these pointers are due.
pub record StandsTaking (w : Setting) (side : IsLegalSide w) (order : Order) (fetched : List ℕ) (noted : List Item) (direct : ℕ)
    (q : Option code.Owed) (x : Stream) (s : Reading) (seen : List EntryAt) (ps : List Pending) (n : ℕ) : Type 0 where
  pub agrees : Agrees w side order fetched noted direct (with_taken q x) s seen ps n
  pub within : x.machine.at ≤ STREAM_LIMIT
  pub whole : CanClose x.machine.builder

-- none was taken
abbrev pub Stands : (w : Setting) → IsLegalSide w → Order → List ℕ → List Item → ℕ → Stream → Reading → List EntryAt → List Pending → ℕ → Type 0
Stands w side order fetched noted direct x s seen ps n = StandsTaking w side order fetched noted direct None x s seen ps n

-- this one was taken
abbrev pub StandsWith : (w : Setting) → IsLegalSide w → Order → List ℕ → List Item → ℕ → code.Owed → Stream → Reading → List EntryAt → Pending
    → List Pending → ℕ → Type 0
StandsWith w side order fetched noted direct o x s seen p ps n = StandsTaking w side order fetched noted direct (Some o) x s seen (p ∷ ps) n

-- No referent is due, and the next root begins with this instruction.
pub record IsAtRoot (plan : Plan) (order : Order) (x : Stream) (i : Instr) : Type 0 where
  pub w : Setting
  pub side : IsLegalSide w
  pub table : w.table ≡ plan.tie.types
  pub fetched : List ℕ
  pub noted : List Item
  pub direct : ℕ
  pub s : Reading
  pub seen : List EntryAt
  pub n : ℕ
  pub stands : Stands w side order fetched noted direct x s seen [] (suc n)
  pub r : Root
  pub there : slice_get (root_list w) (length s.roots) ≡ Some r
  pub instr : i ≡ root_by w.table r.of (type_at w.table r.of)

-- The next of the pending referents is due.
pub record IsAtReferent (plan : Plan) (order : Order) (o : code.Owed) (x : Stream) : Type 0 where
  pub w : Setting
  pub side : IsLegalSide w
  pub table : w.table ≡ plan.tie.types
  pub fetched : List ℕ
  pub noted : List Item
  pub direct : ℕ
  pub s : Reading
  pub seen : List EntryAt
  pub p : Pending
  pub ps : List Pending
  pub n : ℕ
  pub stands : StandsWith w side order fetched noted direct o x s seen p ps n

-- The stream is one of an operation of the plan's interface, and what is kept of it is right for some octets. So what is read next is there.
pub record IsStreaming (plan : Plan) (order : Order) (x : Stream) : Type 0 where
  pub w : Setting
  pub side : IsLegalSide w
  pub table : w.table ≡ plan.tie.types
  pub fetched : List ℕ
  pub noted : List Item
  pub direct : ℕ
  pub s : Reading
  pub seen : List EntryAt
  pub ps : List Pending
  pub n : ℕ
  pub stands : Stands w side order fetched noted direct x s seen ps n

-- ## What a call comes to

-- The value of a home is whole, at this state.
pub record HomeWhole (order : Order) (table : Table) (h : Home) (own direct : ℕ) (target : List ℕ → Read) (fetched : List ℕ) (noted : List Item)
    (cells : ℕ) (source : SourceOver) (t : DecodingSeen) (s : State) : Type 0 where
  pub octets : List ℕ
  pub items : List Item
  pub all : AreOctets octets
  pub is : Whole order (fetched ++ octets) table h own (noted ++ items) direct target s
  pub needed : AreNeeded target fetched octets
  pub took : Took source t cells octets items (length s.cells)
  pub within : s.at ≤ STREAM_LIMIT

-- It went on over so many octets more, and what is kept is right after them, with the referent that was taken, and so many roots left.
pub record WentOnTaking (w : Setting) (side : IsLegalSide w) (order : Order) (fetched : List ℕ) (noted : List Item) (cells : ℕ) (source : SourceOver)
    (t : DecodingSeen) (q : Option code.Owed) (x : Stream) (n : ℕ) : Type 0 where
  pub octets : List ℕ
  pub items : List Item
  pub direct : ℕ
  pub s : Reading
  pub seen : List EntryAt
  pub ps : List Pending
  pub stands : StandsTaking w side order (fetched ++ octets) (noted ++ items) direct q x s seen ps n
  pub took : Took source t cells octets items (cells_of x)

abbrev pub WentOn : (w : Setting) → IsLegalSide w → Order → List ℕ → List Item → ℕ → SourceOver → DecodingSeen → Stream → ℕ → Type 0
WentOn w side order fetched noted cells source t x n = WentOnTaking w side order fetched noted cells source t None x n

-- It read the stream to its end, whose graph is built.
pub record WasRead (w : Setting) (order : Order) (fetched : List ℕ) (noted : List Item) (cells : ℕ) (source : SourceOver) (t : DecodingSeen)
    (x : Stream) : Type 0 where
  pub octets : List ℕ
  pub items : List Item
  pub all : AreOctets (fetched ++ octets)
  pub seen : List EntryAt
  pub at : length (fetched ++ octets) ≡ x.machine.at
  pub progress : (read_stream w order (fetched ++ octets)).progress ≡ going x.machine.at seen
  pub graph : (read_stream w order (fetched ++ octets)).graph ≡ closed x.machine.builder
  pub noted_are : items_of order (fetched ++ octets) seen ≡ noted ++ items
  pub whole : CanClose x.machine.builder
  pub took : Took source t cells octets items (cells_of x)

-- a refusal is that of the stream, or of its head; where the source failed, the octets are cut short where they end; where memory failed, reading was
-- cut off
abbrev pub FaultOf : Extent → Setting → Order → List ℕ → List Item → ℕ → SourceOver → DecodingSeen → DecodeFault → Type 0
FaultOf reach w order fetched noted cells source t (fault.Bad place why) = Refused reach w order fetched noted cells source t place why
FaultOf reach w order fetched noted cells source t fault.ReadFault = Unread reach w order fetched noted cells source t × HasRisen source.faults
FaultOf reach w order fetched noted cells source t fault.Memory = CutOff reach w order fetched noted cells source t

-- a root, and its agreements
abbrev pub Reads : (w : Setting) → IsLegalSide w → Order → List ℕ → List Item → ℕ → ℕ → SourceOver → DecodingSeen → Stream
    → Result (Unit {0}) DecodeFault → Type 0
Reads w side order fetched noted cells n source t x (Ok u) = WentOn w side order fetched noted cells source t x n
Reads w side order fetched noted cells n source t x (Err e) = FaultOf the_head w order fetched noted cells source t e

-- a referent, and the agreements of its pointer, which may give the next of those that are pending
abbrev pub ReadsTaking : (w : Setting) → IsLegalSide w → Order → List ℕ → List Item → ℕ → ℕ → SourceOver → DecodingSeen → Stream
    → Result (Option code.Owed) DecodeFault → Type 0
ReadsTaking w side order fetched noted cells n source t x (Ok q) = WentOnTaking w side order fetched noted cells source t q x n
ReadsTaking w side order fetched noted cells n source t x (Err e) = FaultOf the_head w order fetched noted cells source t e

-- It went on until nothing was pending.
abbrev pub WentThrough : (w : Setting) → IsLegalSide w → Order → List ℕ → List Item → ℕ → SourceOver → DecodingSeen → Stream → ℕ → Type 0
WentThrough w side order fetched noted cells source t x n = (g : WentOn w side order fetched noted cells source t x n) × (g.ps ≡ [])

-- all that is pending
abbrev pub ReadsAll : (w : Setting) → IsLegalSide w → Order → List ℕ → List Item → ℕ → ℕ → SourceOver → DecodingSeen → Stream
    → Result (Unit {0}) DecodeFault → Type 0
ReadsAll w side order fetched noted cells n source t x (Ok u) = WentThrough w side order fetched noted cells source t x n
ReadsAll w side order fetched noted cells n source t x (Err e) = FaultOf the_head w order fetched noted cells source t e

-- ## What each reads
-- `x` is what is kept before the call, `y` what is kept after it, `result` its answer.

-- the root that begins with an instruction
abbrev pub RootReads : Plan → Order → Instr → Stream → SourceOver → DecodingSeen → Stream → Result (Unit {0}) DecodeFault → Type 0
RootReads plan order i x source t y result =
    (w : Setting) (side : IsLegalSide w) (fetched : List ℕ) (noted : List Item) (direct : ℕ) (s : Reading) (seen : List EntryAt) (n : ℕ)
    → w.table ≡ plan.tie.types
    → Stands w side order fetched noted direct x s seen [] (suc n) → (r : Root) → slice_get (root_list w) (length s.roots) ≡ Some r
    → i ≡ root_by w.table r.of (type_at w.table r.of)
    → Reads w side order fetched noted (cells_of x) n source t y result

-- the next of the pending referents
abbrev pub ReferentReads : Plan → Order → code.Owed → Stream → SourceOver → DecodingSeen → Stream → Result (Option code.Owed) DecodeFault → Type 0
ReferentReads plan order o x source t y result =
    (w : Setting) (side : IsLegalSide w) (fetched : List ℕ) (noted : List Item) (direct : ℕ) (s : Reading) (seen : List EntryAt) (p : Pending)
    (ps : List Pending) (n : ℕ) → w.table ≡ plan.tie.types
    → StandsWith w side order fetched noted direct o x s seen p ps n → ReadsTaking w side order fetched noted (cells_of x) n source t y result

-- all that is pending
abbrev pub PendingReads : Plan → Order → Stream → SourceOver → DecodingSeen → Stream → Result (Unit {0}) DecodeFault → Type 0
PendingReads plan order x source t y result =
    (w : Setting) (side : IsLegalSide w) (fetched : List ℕ) (noted : List Item) (direct : ℕ) (s : Reading) (seen : List EntryAt) (ps : List Pending)
    (n : ℕ) → w.table ≡ plan.tie.types
    → Stands w side order fetched noted direct x s seen ps n → ReadsAll w side order fetched noted (cells_of x) n source t y result

-- what the setting of a call is: a side of an operation of the plan's interface
pub record IsSettingOf (plan : Plan) (op : ℕ) (side : Side) (w : Setting) : Type 0 where
  pub table : w.table ≡ plan.tie.types
  pub there : slice_get plan.tie.operations op ≡ Some w.op
  pub on : w.side ≡ side

-- all roots that are no pipes
abbrev pub RootsRead : Plan → Order → ℕ → Side → Stream → SourceOver → DecodingSeen → Stream → Result Found DecodeFault → Type 0
RootsRead plan order op side x source t y (Ok f) =
    (w : Setting) (legal : IsLegalSide w) → IsSettingOf plan op side w → WentThrough w legal order [] [] (cells_of x) source t y 0
RootsRead plan order op side x source t y (Err e) =
    (w : Setting) → IsLegalSide w → IsSettingOf plan op side w → FaultOf the_head w order [] [] (cells_of x) source t e
