-- What reading a chunk by a machine of its own comes to.
-- `w` is a setting, `spot` the spot at which the chunk begins, `m` a machine, `s` the source over the call, `t` the log and the count of steps over
-- it.
use Rattle.std.specs.Prelude.{◌≡◌, ◌≤◌, ℕ, ◌+◌, ◌*◌, List, [], ◌∷◌, ◌++◌, length, Some, None, true, Result, Ok, Err}
use Rattle.std.specs.Io.KnownBytes.{Consumes, IsAtEnd}
use Rattle.nd_base.specs.declared.octets.Order.{Order}
use Rattle.nd_base.specs.Over.{SourceOver, HasRisen}
use Rattle.nd_types.specs.declared.types.TypeId.{TypeId}
use Rattle.nd_value.specs.declared.item.Home.TheVariants as home
use Rattle.nd_value.specs.declared.item.Item.{Item}
use Rattle.nd_value.specs.Setting.{Setting, unread}
use Rattle.nd_value.specs.Tree as tree
use Rattle.nd_value.specs.Tree.{Tree, more, node, none, flat, trees}
use Rattle.nd_grammar.specs.declared.reason.Reason.{Reason}
use Rattle.nd_grammar.specs.declared.reason.Reason.TheVariants as reason
use Rattle.nd_grammar.specs.Items.{but_gaps}
use Rattle.nd_grammar.specs.LegalSide.{IsLegalSide}
use Rattle.ndr_code.specs.declared.plan.Plan.{Plan}
use Rattle.ndr_decoder_state.specs.declared.fault.DecodeFault.{DecodeFault}
use Rattle.ndr_decoder_state.specs.declared.fault.DecodeFault.TheVariants as fault
use Rattle.ndr_decoder_state.specs.declared.machine.Machine.{Machine}
use Rattle.nd_grammar.specs.decoded.Verdict.{DecodingSeen, HasNoted}
use Rattle.ndr_decode.specs.Piping.{IsPipeBy}
use Rattle.ndr_drain_laws.specs.parts.Parts.{IsPart, Spot, after, part_items}
use Rattle.ndr_drain_laws.specs.reader.PartReader.{IsAtPipe, type_of_root}
use Rattle.ndr_drain_laws.specs.reader.Outcomes.{PartCut, PartRefused, PartWhole}
use Rattle.ndr_drain_reader.specs.Calls.{IsChunkCut, IsChunkFault}

-- The machine is at the spot, over a graph whose one root is an open pipe without elements.
pub record IsOpened (spot : Spot) (m : Machine) : Type 0 where
  pub at : m.at ≡ spot.place
  pub in_pipe : m.home ≡ home.Root spot.root
  pub open_home : m.builder.home ≡ Some (home.Root 0)
  pub roots : m.builder.graph.roots ≡ unread ∷ []
  pub cells : m.builder.graph.cells ≡ []
  pub nodes : m.builder.nodes ≡ (tree.Pipe, 0) ∷ []
  pub max_at : m.max_at ≡ None
  pub numbers : m.referents ≡ []

-- A chunk of a pipe, whose elements have the run at an address, is due.
pub record IsAtChunk (plan : Plan) (run : ℕ) (m : Machine) : Type 0 where
  pub w : Setting
  pub legal : IsLegalSide w
  pub spot : Spot
  pub at_pipe : IsAtPipe w spot
  pub elem : TypeId
  pub by_plan : IsPipeBy plan w (type_of_root w spot.root) elem run
  pub opened : IsOpened spot m

-- the graph of the machine is the pipe with these elements, and the pipe is whole
pub record HasElements (elements : List Tree) (m : Machine) : Type 0 where
  pub open_home : m.builder.home ≡ Some (home.Root 0)
  pub roots : m.builder.graph.roots ≡ unread ∷ []
  pub cells : m.builder.graph.cells ≡ []
  pub nodes : m.builder.nodes ≡ flat (more (node tree.Pipe (trees elements)) none)

-- ## By a log and a count of its own

-- these octets were taken, and these items were noted
pub record TookOctets (s : SourceOver) (t : DecodingSeen) (octets : List ℕ) (noted : List Item) : Type 0 where
  pub left : Consumes s.left s.left_now octets
  pub logged : HasNoted noted t
  pub steps : t.steps_now ≤ t.steps + length (but_gaps noted)

-- so many elements were read
pub record FilledWhole (w : Setting) (order : Order) (spot : Spot) (s : SourceOver) (t : DecodingSeen) (m : Machine) (count : ℕ) : Type 0 where
  pub octets : List ℕ
  pub elements : List Tree
  pub noted : List Item
  pub whole : PartWhole w order spot octets elements noted
  pub took : TookOctets s t octets noted
  pub stepped : t.steps_now ≡ t.steps + length (but_gaps noted)
  pub as_many : length elements ≡ count
  pub at : m.at ≡ spot.place + length octets
  pub built : HasElements elements m

-- the octets are refused
pub record FilledBad (w : Setting) (order : Order) (spot : Spot) (s : SourceOver) (t : DecodingSeen) (place : ℕ) (why : Reason) : Type 0 where
  pub octets : List ℕ
  pub noted : List Item
  pub refused : PartRefused w order spot octets noted place why
  pub took : TookOctets s t octets noted
  pub ended : why ≡ reason.Truncated → s.ended_now ≡ true
  pub none_left : why ≡ reason.Truncated → IsAtEnd s.left_now

-- the source failed, and the octets are cut short where they end
pub record FilledUnread (w : Setting) (order : Order) (spot : Spot) (s : SourceOver) (t : DecodingSeen) : Type 0 where
  pub octets : List ℕ
  pub noted : List Item
  pub short : PartRefused w order spot octets noted (spot.place + length octets) reason.Truncated
  pub took : TookOctets s t octets noted

-- reading was cut off
pub record FilledPart (w : Setting) (order : Order) (spot : Spot) (s : SourceOver) (t : DecodingSeen) : Type 0 where
  pub octets : List ℕ
  pub noted : List Item
  pub cut : PartCut w order spot octets noted
  pub took : TookOctets s t octets noted

abbrev pub FillsNot : Setting → Order → Spot → SourceOver → DecodingSeen → DecodeFault → Type 0
FillsNot w order spot s t (fault.Bad place why) = FilledBad w order spot s t place why
FillsNot w order spot s t fault.ReadFault = HasRisen s.faults × FilledUnread w order spot s t
FillsNot w order spot s t fault.Memory = FilledPart w order spot s t

abbrev pub Fills : Setting → Order → Spot → SourceOver → DecodingSeen → Machine → Result ℕ DecodeFault → Type 0
Fills w order spot s t m (Ok count) = FilledWhole w order spot s t m count
Fills w order spot s t m (Err e) = FillsNot w order spot s t e

-- ## By the log and the count of the stream

-- So many elements were read, and memory may still fail before they are answered.
pub record TakenWhole (w : Setting) (order : Order) (spot : Spot) (s : SourceOver) (t : DecodingSeen) (m : Machine) (count : ℕ) : Type 0 where
  pub octets : List ℕ
  pub elements : List Tree
  pub left : Consumes s.left s.left_now octets
  pub read : IsPart w order spot (record { octets = octets; elements = elements })
  pub logged : (before : List ℕ) → length before ≡ spot.place → HasNoted (part_items w order (before ++ octets) spot elements) t
  pub stepped : (before : List ℕ) → length before ≡ spot.place
      → t.steps_now ≡ t.steps + length (but_gaps (part_items w order (before ++ octets) spot elements))
  pub by_octets : t.steps_now ≤ t.steps + length octets
  pub few_then : (after spot (record { octets = octets; elements = elements })).node ≤ 32 *
      (after spot (record { octets = octets; elements = elements })).place + 1
  pub cut : IsChunkCut w order spot s t
  pub as_many : length elements ≡ count
  pub at : m.at ≡ spot.place + length octets
  pub built : HasElements elements m

abbrev pub Takes : Setting → Order → Spot → SourceOver → DecodingSeen → Machine → Result ℕ DecodeFault → Type 0
Takes w order spot s t m (Ok count) = TakenWhole w order spot s t m count
Takes w order spot s t m (Err e) = IsChunkFault w order spot s t e
