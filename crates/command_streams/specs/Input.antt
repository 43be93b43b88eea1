-- The octets of an input that are read, and the format label before them (C706, section 14.1).
use Rattle.std.specs.Prelude.{◌≡◌, ℕ, ◌+◌, ◌<◌, ◌≤◌, true, List, length, take, Option, Some, Ok, Err, ⊤}
use Rattle.std.specs.Io.KnownBytes.{Consumes, IsAtEnd}
use Rattle.nd_base.specs.declared.octets.Order.{Order}
use Rattle.nd_base.specs.Over.{SourceOver, HasRisen}
use Rattle.ndr_prim.specs.declared.label.LabelFault.{LabelFault}
use Rattle.ndr_prim.specs.Label.{order_of_label}
use Rattle.command_refusals.specs.declared.refusal.Refusal.{Refusal}
use Rattle.command_refusals.specs.declared.refusal.Refusal.TheVariants.{Memory, ReadFault, BadLabel, ShortLabel}

-- ## The octets that are read

-- These octets were read: the whole input, or its first octets to one past a limit.
pub record AreRead (s : SourceOver) (limit : ℕ) (octets : List ℕ) : Type 0 where
  pub taken : Consumes s.left s.left_now octets
  pub few : length octets ≤ limit + 1
  pub whole : length octets < limit + 1 → s.ended_now ≡ true
  pub none_left : length octets < limit + 1 → IsAtEnd s.left_now

-- why the input was not read; running out of memory needs no cause
abbrev pub IsFetchCause : SourceOver → Refusal → Type 0
IsFetchCause s Memory = ⊤
IsFetchCause s ReadFault = HasRisen s.faults
IsFetchCause s _ = ⊥

-- The octets of the input are known, and are these. No fetch failed.
pub record AreGiven (s : SourceOver) (octets : List ℕ) : Type 0 where
  pub left : s.left ≡ Some octets
  pub reads : HasRisen s.faults → ⊥

-- The octets of the input are known, and these count under a limit: all of them, or one more than the limit. No fetch failed.
pub record IsInput (s : SourceOver) (limit : ℕ) (octets : List ℕ) : Type 0 where
  pub all : List ℕ
  pub left : s.left ≡ Some all
  pub counted : octets ≡ take (limit + 1) all
  pub reads : HasRisen s.faults → ⊥

-- ## The format label

-- `s` is the source over the call.

-- The four octets of a label were taken, and state this order.
pub record HasLabel (s : SourceOver) (order : Order) : Type 0 where
  pub label : List ℕ
  pub taken : Consumes s.left s.left_now label
  pub four : length label ≡ 4
  pub states : order_of_label label ≡ Ok order

-- Four octets were taken, and are refused as a label for this reason.
pub record IsBadLabel (s : SourceOver) (why : LabelFault) : Type 0 where
  pub label : List ℕ
  pub taken : Consumes s.left s.left_now label
  pub four : length label ≡ 4
  pub states : order_of_label label ≡ Err why

-- All that the source gives was taken, and is shorter than a label.
pub record IsShortLabel (s : SourceOver) : Type 0 where
  pub label : List ℕ
  pub taken : Consumes s.left s.left_now label
  pub short : length label < 4
  pub ended : s.ended_now ≡ true
  pub none_left : IsAtEnd s.left_now

-- why there is no label
abbrev pub IsLabelCause : SourceOver → Refusal → Type 0
IsLabelCause s ReadFault = HasRisen s.faults
IsLabelCause s (BadLabel why) = IsBadLabel s why
IsLabelCause s ShortLabel = IsShortLabel s
IsLabelCause s _ = ⊥

-- why nothing more was taken: the source failed
abbrev pub IsReadFault : SourceOver → Refusal → Type 0
IsReadFault s ReadFault = HasRisen s.faults
IsReadFault s _ = ⊥
