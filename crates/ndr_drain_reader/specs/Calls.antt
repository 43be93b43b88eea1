-- What the calls of an intake come to.
-- `w` is the setting of the stream, `s` the source over the call, `t` the log of items and the count of steps over the call, `i` the intake before
-- the call and
-- `now` after it.
use Rattle.std.specs.Prelude.{◌≡◌, ◌≤◌, ℕ, ◌+◌, ◌-◌, true, List, [], ◌∷◌, ◌++◌, length, Option, Some, None}
use Rattle.std.specs.Io.KnownBytes.{Consumes, IsAtEnd}
use Rattle.nd_base.specs.declared.octets.Order.{Order}
use Rattle.nd_base.specs.Over.{SourceOver, HasRisen}
use Rattle.nd_types.specs.declared.interface.Interface.{Interface}
use Rattle.nd_types.specs.declared.types.Operation.{Operation}
use Rattle.nd_types.specs.declared.types.Side.{Side}
use Rattle.nd_value.specs.Canon.{IsCanon}
use Rattle.nd_value.specs.Fitting.{setting_of}
use Rattle.nd_value.specs.Setting.{Setting, root_list}
use Rattle.nd_value.specs.Deferral.{before_pipes}
use Rattle.nd_value.specs.Tree.{Tree}
use Rattle.nd_grammar.specs.declared.reason.Reason.{Reason}
use Rattle.nd_grammar.specs.declared.reason.Reason.TheVariants as reason
use Rattle.nd_grammar.specs.Entry.{EntryAt, end_to_end}
use Rattle.nd_grammar.specs.Items.{but_gaps, items}
use Rattle.nd_grammar.specs.Stream.{head_entries}
use Rattle.ndr_decoder_state.specs.declared.fault.DecodeFault.{DecodeFault}
use Rattle.ndr_decoder_state.specs.declared.fault.DecodeFault.TheVariants as fault
use Rattle.nd_grammar.specs.decoded.Verdict.{DecodingSeen, HasNoted, IsCounted, IsCutOff, IsRefused, MayFollow, fetched_to, IsUnread}
use Rattle.ndr_drain_laws.specs.parts.Parts.{AreReadTo, BadHead, BadPart, IsPart, IsPartThrough, Spot, after, first_spot, part_items}
use Rattle.ndr_drain_reader.specs.declared.intake.Phase.TheVariants.{Begun, Reading}
use Rattle.ndr_drain_reader.specs.Seen.{IntakeSeen, moved_to}

-- An intake was begun: nothing was read, and all pipes of the side are left.
pub record HasBegun (interface : Interface) (op : ℕ) (o : Operation) (side : Side) (order : Order) (now : IntakeSeen) : Type 0 where
  pub interface_is : now.interface ≡ interface
  pub op_is : now.op ≡ op
  pub side_is : now.side ≡ side
  pub order_is : now.order ≡ order
  pub none_given : now.given ≡ None
  pub phase : now.phase ≡ Begun
  pub spot : now.spot ≡ first_spot (setting_of interface o side) []
  pub left : now.left ≡ length (root_list (setting_of interface o side)) - before_pipes (root_list (setting_of interface o side))

-- ## The head

-- The head was read: the octets fetched are the head of a stream of the graph that is kept, which conforms, has empty pipes and is its own canonical
-- form. The items of the head were logged; each of them but the gaps is a step, and so is each cell.
pub record HasHead (w : Setting) (s : SourceOver) (t : DecodingSeen) (i now : IntakeSeen) : Type 0 where
  pub octets : List ℕ
  pub left : Consumes s.left s.left_now octets
  pub read : AreReadTo w i.order octets now.graph []
  pub canonical : IsCanon w now.graph now.graph
  pub phase : now.phase ≡ Reading
  pub interface_is : now.interface ≡ i.interface
  pub op_is : now.op ≡ i.op
  pub side_is : now.side ≡ i.side
  pub order_is : now.order ≡ i.order
  pub spot : now.spot ≡ first_spot w octets
  pub as_many : now.left ≡ i.left
  pub logged : HasNoted (items i.order octets (end_to_end 0 (head_entries w now.graph read.is_head.steps))) t
  pub stepped : t.steps_now
      ≡ t.steps + length (but_gaps (items i.order octets (end_to_end 0 (head_entries w now.graph read.is_head.steps)))) + length now.graph.cells
  -- so they are no more than the octets and the roots
  pub counted : IsCounted w i.order octets (end_to_end 0 (head_entries w now.graph read.is_head.steps)) t

-- The octets are refused, as `decode` refuses them, whatever follows them. They are refused in the head: the refused entry comes before the pipes,
-- and so do all that were read.
pub record IsHeadRefused (w : Setting) (order : Order) (s : SourceOver) (place : ℕ) (why : Reason) (t : DecodingSeen) : Type 0 where
  pub refused : IsRefused w order s place why t
  pub in_head : BadHead w order refused.fetched place why
  -- after the same entries
  pub as_far : in_head.bad.earlier ≡ refused.bad.earlier

-- The source failed, and the octets that were fetched are cut short where they end, in the head: the entry that lacks octets comes before the pipes,
-- and so do all that were read.
pub record IsHeadUnread (w : Setting) (order : Order) (s : SourceOver) (t : DecodingSeen) : Type 0 where
  pub unread : IsUnread w order s t
  pub in_head : BadHead w order unread.cut.fetched (length unread.cut.fetched) reason.Truncated
  -- after the same entries
  pub as_far : in_head.bad.earlier ≡ unread.cut.earlier

-- Reading was cut off: the octets that were fetched were read through some entries, which were logged and counted. All of them come before the pipes.
pub record IsHeadCut (w : Setting) (order : Order) (s : SourceOver) (t : DecodingSeen) : Type 0 where
  pub cut : IsCutOff w order s t
  pub in_head : length cut.earlier ≤ length (head_entries w cut.read.partial cut.read.stream.steps)

-- why the head was not read
abbrev pub IsHeadCause : Setting → Order → SourceOver → DecodingSeen → DecodeFault → Type 0
IsHeadCause w order s t (fault.Bad place why) = IsHeadRefused w order s place why t
IsHeadCause w order s t fault.ReadFault = HasRisen s.faults × IsHeadUnread w order s t
IsHeadCause w order s t fault.Memory = IsHeadCut w order s t

-- ## A chunk

-- how many pipes are left after a chunk of these elements: one less after the end of a pipe
abbrev pub left_after : ℕ → List Tree → ℕ
left_after n [] = n - 1
left_after n (v ∷ vs) = n

-- A chunk was read at the spot: the octets fetched are its count and these elements, which conform. Its items were logged, and each of them but the
-- gap is a step: so no more than the octets fetched.
pub record HasChunk (w : Setting) (s : SourceOver) (t : DecodingSeen) (i now : IntakeSeen) (elements : List Tree) : Type 0 where
  pub octets : List ℕ
  pub left : Consumes s.left s.left_now octets
  pub read : IsPart w i.order i.spot (record { octets = octets; elements = elements })
  pub moved : now ≡ moved_to (after i.spot (record { octets = octets; elements = elements })) (left_after i.left elements) i
  pub logged : (before : List ℕ) → length before ≡ i.spot.place → HasNoted (part_items w i.order (before ++ octets) i.spot elements) t
  pub stepped : (before : List ℕ) → length before ≡ i.spot.place
      → t.steps_now ≡ t.steps + length (but_gaps (part_items w i.order (before ++ octets) i.spot elements))
  pub by_octets : t.steps_now ≤ t.steps + length octets

-- Elements are answered, and none where the pipe has ended.
abbrev pub IsAnswered : Setting → SourceOver → DecodingSeen → IntakeSeen → IntakeSeen → Option (List Tree) → Type 0
IsAnswered w s t i now None = HasChunk w s t i now []
IsAnswered w s t i now (Some vs) = HasChunk w s t i now vs × (1 ≤ length vs)

-- The items of these entries were logged, and no more steps were counted than these but the gaps: so no more than the octets fetched.
pub record IsChunkCounted (order : Order) (place : ℕ) (fetched : List ℕ) (earlier : List EntryAt) (t : DecodingSeen) : Type 0 where
  pub logged : (before : List ℕ) → length before ≡ place → HasNoted (items order (before ++ fetched) earlier) t
  pub by_items : (before : List ℕ) → length before ≡ place → t.steps_now ≤ t.steps + length (but_gaps (items order (before ++ fetched) earlier))
  pub by_octets : t.steps_now ≤ t.steps + length fetched

-- The octets fetched are refused in the chunk, and those that begin with them, at the same place and for the same reason, whatever follows. They end
-- with the refused entry. Everything before it was read, was logged and is counted.
pub record IsChunkRefused (w : Setting) (order : Order) (spot : Spot) (s : SourceOver) (place : ℕ) (why : Reason) (t : DecodingSeen) : Type 0 where
  pub fetched : List ℕ
  pub left : Consumes s.left s.left_now fetched
  pub ended : why ≡ reason.Truncated → s.ended_now ≡ true
  pub none_left : why ≡ reason.Truncated → IsAtEnd s.left_now
  pub bad : BadPart w order spot fetched place why
  pub ends : spot.place + length fetched ≡ fetched_to why (spot.place + length fetched) bad.here
  pub counted : IsChunkCounted order spot.place fetched bad.earlier t
  pub stays : (more : List ℕ) → MayFollow why more → BadPart w order spot (fetched ++ more) place why

-- The source failed, and the octets that were fetched are cut short where they end: the next entry of the chunk lacks some of its own, so the chunk
-- is not whole. The entries before it were read, were logged and are counted.
pub record IsChunkUnread (w : Setting) (order : Order) (spot : Spot) (s : SourceOver) (t : DecodingSeen) : Type 0 where
  pub fetched : List ℕ
  pub left : Consumes s.left s.left_now fetched
  pub short : BadPart w order spot fetched (spot.place + length fetched) reason.Truncated
  pub counted : IsChunkCounted order spot.place fetched short.earlier t

-- Reading was cut off: the octets that were fetched were read through some entries of the chunk, which were logged and counted.
pub record IsChunkCut (w : Setting) (order : Order) (spot : Spot) (s : SourceOver) (t : DecodingSeen) : Type 0 where
  pub fetched : List ℕ
  pub left : Consumes s.left s.left_now fetched
  pub earlier : List EntryAt
  pub read : IsPartThrough w order spot fetched earlier
  pub counted : IsChunkCounted order spot.place fetched earlier t

-- why a chunk was not read
abbrev pub IsChunkFault : Setting → Order → Spot → SourceOver → DecodingSeen → DecodeFault → Type 0
IsChunkFault w order spot s t (fault.Bad place why) = IsChunkRefused w order spot s place why t
IsChunkFault w order spot s t fault.ReadFault = HasRisen s.faults × IsChunkUnread w order spot s t
IsChunkFault w order spot s t fault.Memory = IsChunkCut w order spot s t

-- the same at the intake's spot
abbrev pub IsChunkCause : Setting → IntakeSeen → SourceOver → DecodingSeen → DecodeFault → Type 0
IsChunkCause w i s t e = IsChunkFault w i.order i.spot s t e
