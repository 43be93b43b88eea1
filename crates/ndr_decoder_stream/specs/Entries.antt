-- What an entry of a cell says.
-- `l` are the lists of what is kept of cells that are not plain.
use Rattle.std.specs.Prelude.{◌≡◌, ℕ, ◌<◌, ◌≤◌, ◌+◌, ◌-◌, ◌^◌, suc, List, [], ◌∷◌, ◌++◌, length, map, slice_get, Option, Some, None, option_map}
use Rattle.std.specs.List.{AllByRecursion}
use Rattle.ndr_decoder_laws.specs.declared.first.First.TheVariants as first
use Rattle.ndr_decoder_laws.specs.declared.kept.Kept.{Kept}
use Rattle.ndr_decoder_laws.specs.stream.Between.{or_none}
use Rattle.ndr_decoder_stream.specs.declared.cells.CellEntry.{CellEntry}
use Rattle.ndr_decoder_stream.specs.declared.cells.CellEntry.TheVariants as entry
use Rattle.ndr_decoder_stream.specs.declared.cells.Counts.{Counts}
use Rattle.ndr_decoder_stream.specs.declared.cells.Lists.{Lists}

abbrev pub plain : Kept
plain = record { first = first.Other; max_at = None }

-- what is kept of a string or an array whose maximum count is eight octets before its actual count
abbrev pub counts_kept : Counts → Kept
counts_kept n = record { first = first.Counted n.max n.offset n.actual (Some n.place); max_at = Some (n.place - 8) }

abbrev pub entry_seen : Lists → CellEntry → Option Kept
entry_seen l entry.Unread = None
entry_seen l entry.Plain = Some plain
entry_seen l (entry.Counted i) = option_map counts_kept (slice_get l.counted.items i)
entry_seen l (entry.Listed i) = slice_get l.listed.items i

-- an entry that is in one of the lists has one of its numbers
abbrev pub IsListed : Lists → CellEntry → Type 0
IsListed l (entry.Counted i) = i < length l.counted.items
IsListed l (entry.Listed i) = i < length l.listed.items
IsListed l _ = Unit {0}

-- how many cells were read
abbrev pub read_count : List CellEntry → ℕ
read_count [] = 0
read_count (entry.Unread ∷ es) = read_count es
read_count (_ ∷ es) = suc (read_count es)

-- What is kept is right: each entry that is in one of the lists has one of its numbers, and neither list is longer than there are cells that were
-- read, whose numbers have 32 bits.
pub record IsSound (l : Lists) (es : List CellEntry) : Type 0 where
  pub listed : AllByRecursion (IsListed l) es
  pub counted_few : length l.counted.items ≤ read_count es
  pub listed_few : length l.listed.items ≤ read_count es
  pub cells_few : length es < 2 ^ 32

-- at most so many more are listed
pub record HasMore (n : ℕ) (old new : Lists) : Type 0 where
  pub counted : length new.counted.items ≤ length old.counted.items + n
  pub listed : length new.listed.items ≤ length old.listed.items + n

-- the lists have what they had, and more after it
pub record HasGrown (old new : Lists) : Type 0 where
  pub counted : (more : List Counts) × (new.counted.items ≡ old.counted.items ++ more)
  pub listed : (more : List Kept) × (new.listed.items ≡ old.listed.items ++ more)

-- what an entry at a place says, whatever is listed
abbrev pub said_at : Lists → List CellEntry → ℕ → Option Kept
said_at l es i = or_none (slice_get (map (entry_seen l) es) i)

-- the entry at a place is this one, and the others say what they said
pub record IsPut (at : ℕ) (e : CellEntry) (old new : List CellEntry) : Type 0 where
  pub is : (l : Lists) → said_at l new at ≡ entry_seen l e
  pub others : (l : Lists) (i : ℕ) → (i ≡ at → ⊥) → said_at l new i ≡ said_at l old i
