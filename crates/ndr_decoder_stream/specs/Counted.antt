-- What reading the gap and the count of a chunk comes to by itself, whatever is around the chunk.
-- `m` is the machine before and `n` the one after, `s` the source over the call, `t` the log and the steps over the call, `e` a fault.
use Rattle.std.specs.Prelude.{◌≡◌, ◌≤◌, ℕ, ◌+◌, pos, List, [], ◌∷◌, ◌++◌, length, Result, Ok, Err}
use Rattle.std.specs.Io.KnownBytes.{Consumes}
use Rattle.nd_base.specs.declared.octets.Order.{Order}
use Rattle.nd_base.specs.declared.TheConstants.{STREAM_LIMIT}
use Rattle.nd_base.specs.Over.{SourceOver}
use Rattle.nd_types.specs.Number.{AreOctets, unsigned}
use Rattle.nd_value.specs.declared.item.Home.{Home}
use Rattle.nd_value.specs.declared.item.Item.{Item}
use Rattle.nd_value.specs.declared.item.ItemKind.TheVariants as item
use Rattle.nd_grammar.specs.Entry.{gap}
use Rattle.ndr_decoder_state.specs.declared.fault.DecodeFault.{DecodeFault}
use Rattle.ndr_decoder_state.specs.declared.machine.Machine.{Machine}
use Rattle.ndr_decoder_laws.specs.steps.StepItems.{gap_items, item_here}
use Rattle.nd_grammar.specs.decoded.Verdict.{DecodingSeen, HasNoted}
use Rattle.ndr_decoder_stream.specs.Fetched.{CountCame, GapCame}

-- the item of a count
abbrev pub count_item_at : Home → ℕ → ℕ → Item
count_item_at h at count = item_here h at item.Chunk 4 (pos count) 0

-- ## The gap

-- The gap came. It was noted, and is no step.
pub record GapPassed (m n : Machine) (s : SourceOver) (t : DecodingSeen) : Type 0 where
  pub octets : List ℕ
  pub all : AreOctets octets
  pub left : Consumes s.left s.left_now octets
  pub size : length octets ≡ gap m.at 4
  pub logged : HasNoted (gap_items m.home m.at octets) t
  pub steps : t.steps_now ≡ t.steps
  pub at : n.at ≡ m.at + length octets

-- The gap did not come, or was not noted.
pub record GapStopped (m : Machine) (s : SourceOver) (t : DecodingSeen) (e : DecodeFault) : Type 0 where
  pub octets : List ℕ
  pub all : AreOctets octets
  pub left : Consumes s.left s.left_now octets
  pub came : GapCame m.at s octets (Err e)
  pub log : t.log_now ≡ t.log
  pub steps : t.steps_now ≡ t.steps

abbrev pub GapTold : Machine → Machine → SourceOver → DecodingSeen → Result (Unit {0}) DecodeFault → Type 0
GapTold m n s t (Ok u) = GapPassed m n s t
GapTold m n s t (Err e) = GapStopped m s t e

-- ## The count

-- The count came. It was noted, and is a step.
pub record CountPassed (order : Order) (m n : Machine) (s : SourceOver) (t : DecodingSeen) (count : ℕ) : Type 0 where
  pub octets : List ℕ
  pub all : AreOctets octets
  pub left : Consumes s.left s.left_now octets
  pub size : length octets ≡ 4
  pub within : m.at + 4 ≤ STREAM_LIMIT
  pub value : unsigned order octets ≡ count
  pub logged : HasNoted (count_item_at m.home m.at count ∷ []) t
  pub steps : t.steps_now ≡ t.steps + 1
  pub at : n.at ≡ m.at + 4

-- The count did not come, or was not noted.
pub record CountStopped (m : Machine) (s : SourceOver) (t : DecodingSeen) (e : DecodeFault) : Type 0 where
  pub octets : List ℕ
  pub all : AreOctets octets
  pub left : Consumes s.left s.left_now octets
  pub came : CountCame m.at s octets (Err e)
  pub log : t.log_now ≡ t.log
  pub steps : t.steps_now ≡ t.steps

abbrev pub CountTold : Order → Machine → Machine → SourceOver → DecodingSeen → Result ℕ DecodeFault → Type 0
CountTold order m n s t (Ok count) = CountPassed order m n s t count
CountTold order m n s t (Err e) = CountStopped m s t e

-- ## Both

-- The gap and the count came, and no other octets. Both were noted, and the count is a step.
pub record ChunkCounted (order : Order) (m n : Machine) (s : SourceOver) (t : DecodingSeen) (count : ℕ) : Type 0 where
  pub gap_octets : List ℕ
  pub count_octets : List ℕ
  pub all : AreOctets (gap_octets ++ count_octets)
  pub left : Consumes s.left s.left_now (gap_octets ++ count_octets)
  pub gap_size : length gap_octets ≡ gap m.at 4
  pub size : length count_octets ≡ 4
  pub within : m.at + length gap_octets + 4 ≤ STREAM_LIMIT
  pub value : unsigned order count_octets ≡ count
  pub logged : HasNoted (gap_items m.home m.at gap_octets ++ count_item_at m.home (m.at + length gap_octets) count ∷ []) t
  pub steps : t.steps_now ≡ t.steps + 1
  pub at : n.at ≡ m.at + length gap_octets + 4

-- The gap came and was noted, and then the count did not come, or was not noted.
pub record UncountedChunk (m : Machine) (s : SourceOver) (t : DecodingSeen) (e : DecodeFault) : Type 0 where
  pub gap_octets : List ℕ
  pub count_octets : List ℕ
  pub all : AreOctets (gap_octets ++ count_octets)
  pub left : Consumes s.left s.left_now (gap_octets ++ count_octets)
  pub gap_size : length gap_octets ≡ gap m.at 4
  pub came : CountCame (m.at + length gap_octets) s count_octets (Err e)
  pub logged : HasNoted (gap_items m.home m.at gap_octets) t
  pub steps : t.steps_now ≡ t.steps

pub data ChunkStopped (m : Machine) (s : SourceOver) (t : DecodingSeen) (e : DecodeFault) : Type 0 where
  in_the_gap : GapStopped m s t e → ChunkStopped m s t e
  in_the_count : UncountedChunk m s t e → ChunkStopped m s t e

abbrev pub ChunkTold : Order → Machine → Machine → SourceOver → DecodingSeen → Result ℕ DecodeFault → Type 0
ChunkTold order m n s t (Ok count) = ChunkCounted order m n s t count
ChunkTold order m n s t (Err e) = ChunkStopped m s t e
