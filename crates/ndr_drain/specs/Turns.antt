-- What the steps of a drain come to: one chunk that is read and given, and chunk after chunk.
-- `w` is a setting, `i` an intake, `s` the source over the step, `e` the ends over it, `t` the log of items and the count of steps over it.
use Rattle.std.specs.Prelude.{◌≡◌, ◌⊎◌, ◌≤◌, ℕ, ◌+◌, false, suc, zero, List, [], ◌∷◌, ◌++◌, take, length, Option, Some, Result, MatchResult}
use Rattle.std.specs.Io.KnownBytes.{Consumes}
use Rattle.std.specs.List.{slice_get}
use Rattle.nd_base.specs.declared.octets.Order.{Order}
use Rattle.nd_base.specs.Over.{SourceOver, HasRisen}
use Rattle.nd_types.specs.declared.types.Operation.{Operation}
use Rattle.nd_value.specs.declared.value.Graph.{Graph}
use Rattle.nd_value.specs.Logged.{Logged}
use Rattle.nd_value.specs.Tree.{Tree}
use Rattle.nd_value.specs.Setting.{Setting, root_list}
use Rattle.nd_value.specs.Deferral.{before_pipes}
use Rattle.nd_grammar.specs.Items.{but_gaps}
use Rattle.nd_grammar.specs.decoded.Verdict.{DecodingSeen, HasNoted}
use Rattle.ndr_drain_laws.specs.parts.Parts.{AreParts, Part, Spot, after_all, elem_at, octets_of}
use Rattle.ndr_drain_laws.specs.joined.Entries.{parts_items}
use Rattle.ndr_pipe.specs.Ends.{EndSeen, with_octets, EndsSeen, AreAsBefore, FailsAt, IsOpenAt, change_at}
use Rattle.ndr_drain_reader.specs.Calls.{HasChunk, IsChunkCut, IsChunkRefused, IsChunkUnread}
use Rattle.ndr_drain_reader.specs.Seen.{IntakeSeen, moved_to, setting_in}
use Rattle.ndr_drain.specs.Drained.{chunk_lines, end_after, end_of_root, ends_after, pipe_count}
use Rattle.ndr_drain.specs.declared.fault.GiveFault.{GiveFault}
use Rattle.ndr_drain.specs.declared.fault.GiveFault.TheVariants as give
use Rattle.ndr_drain.specs.declared.fault.DrainFault.{DrainFault}
use Rattle.ndr_drain.specs.declared.fault.DrainFault.TheVariants.{Memory, ReadFault, Bad, EndFailed, TooFewEnds}

-- what is true of the setting of the stream that an intake reads
abbrev pub OfSetting : IntakeSeen → (Setting → Type 0) → Type 0
OfSetting i P = (o : Operation) → slice_get i.interface.operations i.op ≡ Some o → P (setting_in i o)

-- ## Lines

-- Octets were not given whole: out of memory, after a prefix; or the end failed.
abbrev pub AreCut : List EndSeen → List EndSeen → ℕ → List ℕ → GiveFault → Type 0
AreCut before now at octets give.Memory = (cut : ℕ) × (now ≡ change_at at (with_octets (take cut octets)) before)
AreCut before now at octets give.End = FailsAt before now at octets

-- octets are given to an end
abbrev pub AreGiven : List EndSeen → List EndSeen → ℕ → List ℕ → Result Unit GiveFault → Type 0
AreGiven before now at octets result = MatchResult result (λ _. now ≡ change_at at (with_octets octets) before) (AreCut before now at octets)

-- Some octets were given to an end that is open, and the rest is due.
pub record IsPartWay (before now : List EndSeen) (at : ℕ) (octets rest : List ℕ) : Type 0 where
  pub done : List ℕ
  pub given : now ≡ change_at at (with_octets done) before
  pub split : octets ≡ done ++ rest
  pub still_open : IsOpenAt now at

-- the ends from a number on are not finished
abbrev pub AreOpenFrom : ℕ → List EndSeen → Type 0
AreOpenFrom i [] = Unit {0}
AreOpenFrom zero (e ∷ es) = (e.finished ≡ false) × AreOpenFrom zero es
AreOpenFrom (suc i) (e ∷ es) = AreOpenFrom i es

-- ## One chunk

-- One chunk was read and given to the end of its pipe.
pub record HasPassed (w : Setting) (i now : IntakeSeen) (s : SourceOver) (e : EndsSeen) (t : DecodingSeen) : Type 0 where
  pub elements : List Tree
  pub read : HasChunk w s t i now elements
  pub given : e.now ≡ change_at (end_of_root w i.spot.root) (end_after w i.spot elements) e.before

-- One chunk was read, and a prefix of its lines was given to the end of its pipe.
pub record IsCutAtChunk (w : Setting) (i : IntakeSeen) (s : SourceOver) (e : EndsSeen) (t : DecodingSeen) : Type 0 where
  pub elements : List Tree
  pub now : IntakeSeen
  pub read : HasChunk w s t i now elements
  pub cut : ℕ
  pub given : e.now ≡ change_at (end_of_root w i.spot.root) (with_octets (take cut (chunk_lines w i.spot elements))) e.before

-- One chunk was read, and the end of its pipe failed at it.
pub record FailsAtChunk (w : Setting) (i : IntakeSeen) (s : SourceOver) (e : EndsSeen) (t : DecodingSeen) (which : ℕ) : Type 0 where
  pub elements : List Tree
  pub now : IntakeSeen
  pub read : HasChunk w s t i now elements
  pub which_is : which ≡ end_of_root w i.spot.root
  pub failed : FailsAt e.before e.now which (chunk_lines w i.spot elements)

-- why a chunk was not read, or not given
abbrev pub IsStepCause : Setting → IntakeSeen → SourceOver → EndsSeen → DecodingSeen → DrainFault → Type 0
IsStepCause w i s e t Memory = (IsChunkCut w i.order i.spot s t × AreAsBefore e) ⊎ IsCutAtChunk w i s e t
IsStepCause w i s e t ReadFault = HasRisen s.faults × IsChunkUnread w i.order i.spot s t × AreAsBefore e
IsStepCause w i s e t (Bad place why) = IsChunkRefused w i.order i.spot s place why t × AreAsBefore e
IsStepCause w i s e t (EndFailed which) = FailsAtChunk w i s e t which
IsStepCause w i s e t (TooFewEnds wanted found) = ⊥

-- ## Chunk after chunk

-- the types of the elements of the pipes, in order
pub record AreElements (w : Setting) (types : List ℕ) : Type 0 where
  pub all : length types ≡ pipe_count w
  pub each : (i t : ℕ) → slice_get types i ≡ Some t → t ≡ elem_at w (before_pipes (root_list w) + i)

-- Chunks were read one after the other from a spot, and each was given to the end of its pipe.
pub record HavePassed (w : Setting) (order : Order) (from to : Spot) (parts : List Part) (e : EndsSeen) : Type 0 where
  pub read : AreParts w order from parts
  pub reached : to ≡ after_all from parts
  pub given : e.now ≡ ends_after w from parts e.before

-- Their items were logged, and each of them but the gaps is a step.
pub record AreNoted (w : Setting) (order : Order) (from : Spot) (parts : List Part) (t : DecodingSeen) : Type 0 where
  pub logged : (before : List ℕ) → length before ≡ from.place → HasNoted (parts_items w order before from parts) t
  pub stepped : (before : List ℕ) → length before ≡ from.place → t.steps_now ≡ t.steps + length (but_gaps (parts_items w order before from parts))

-- Whole chunks were read and given since the head.
pub record IsUnderWay (w : Setting) (first now : IntakeSeen) (s : SourceOver) (e : EndsSeen) (t : DecodingSeen) : Type 0 where
  pub parts : List Part
  pub consumed : Consumes s.left s.left_now (octets_of parts)
  pub passed : HavePassed w first.order first.spot now.spot parts e
  pub noted : AreNoted w first.order first.spot parts t
  pub is : now ≡ moved_to now.spot now.left first
  pub low : before_pipes (root_list w) ≤ now.spot.root
  pub all : now.spot.root + now.left ≡ length (root_list w)
  pub still_open : AreOpenFrom (end_of_root w now.spot.root) e.now
  pub as_many : length e.now ≡ length e.before

-- Whole chunks were read and given since the head, and the next one was not.
pub record StopsUnderWay (w : Setting) (first : IntakeSeen) (s : SourceOver) (e : EndsSeen) (t : DecodingSeen) (fault : DrainFault) : Type 0 where
  pub parts : List Part
  pub spot : Spot
  pub count : ℕ
  pub left : Option (List ℕ)
  pub consumed : Consumes s.left left (octets_of parts)
  pub ends : List EndSeen
  pub passed : HavePassed w first.order first.spot spot parts (record { before = e.before; now = ends })
  pub log : Logged
  pub steps : ℕ
  pub noted : AreNoted w first.order first.spot parts (record { log = t.log; log_now = log; steps = t.steps; steps_now = steps })
  pub faults : ℕ
  pub no_fewer : s.faults.before ≤ faults
  pub cause : IsStepCause w (moved_to spot count first)
      (record { left = left; left_now = s.left_now; ended_now = s.ended_now; faults = record { before = faults; now = s.faults.now } })
      (record { before = ends; now = e.now }) (record { log = log; log_now = t.log_now; steps = steps; steps_now = t.steps_now }) fault

-- All pipes were read and given; this is the graph that is kept, and so many octets were taken.
pub record IsReadToEnd (w : Setting) (first : IntakeSeen) (s : SourceOver) (e : EndsSeen) (t : DecodingSeen) (kept : Graph) (taken : ℕ) : Type 0 where
  pub now : IntakeSeen
  pub way : IsUnderWay w first now s e t
  pub none_left : now.left ≡ 0
  pub kept_is : kept ≡ now.graph
  pub taken_is : taken ≡ now.spot.place
