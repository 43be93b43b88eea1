-- Where octets refuse an entry of a stream, and why; and the first place at which octets are refused.
use Rattle.std.specs.Prelude.{◌≡◌, ℕ, ◌+◌, ℤ, Bool, true, false, not, ◌&&◌, ◌||◌, if◌then◌else◌, ◌==◌, nat_lt, List, [], ◌∷◌, ◌++◌, length, Option}
use Rattle.std.specs.Prelude.{Some, None}
use Rattle.std.specs.Prelude.{option_map}
use Rattle.std.specs.Ordering.{int_eq}
use Rattle.std.specs.List.{AllByRecursion}
use Rattle.nd_base.specs.declared.octets.Order.{Order}
use Rattle.nd_base.specs.declared.TheConstants.{STREAM_LIMIT}
use Rattle.nd_types.specs.declared.types.Arm.{Arm}
use Rattle.nd_types.specs.declared.types.Attr.{Attr}
use Rattle.nd_types.specs.declared.types.Attr.TheVariants as attr
use Rattle.nd_types.specs.declared.types.Class.TheVariants.{Full}
use Rattle.nd_types.specs.declared.types.TypeDef.TheVariants as def
use Rattle.nd_types.specs.Table.{is_value, selected}
use Rattle.nd_types.specs.Number.{unsigned, value_of_octets}
use Rattle.nd_value.specs.declared.item.Home.{Home}
use Rattle.nd_value.specs.declared.item.Home.TheVariants as home
use Rattle.nd_value.specs.declared.value.Graph.{Graph}
use Rattle.nd_value.specs.Setting.{Setting}
use Rattle.nd_value.specs.Conforms.{IsPartial}
use Rattle.nd_grammar.specs.declared.reason.Reason.{Reason}
use Rattle.nd_grammar.specs.declared.reason.Reason.TheVariants as reason
use Rattle.nd_grammar.specs.Entry.{Kind, Entry, Align, Max, Offset, Actual, Number, Num, Tag, Text, Test, Unread, size_at, EntryAt, end_to_end}
use Rattle.nd_grammar.specs.Entry.{full_cells}
use Rattle.nd_grammar.specs.Stream.{piece, Stream, IsRendered, IsNumbering}

-- ## Where octets refuse an entry

-- How and where a stream is refused is this project's choice, and so are the rules that a string's offset is 0 and that its terminator is
-- its only zero. `x` is an entry at its place, `m` an entry, `at` its place, `os` are its octets, `h` is a home, `n` a node's number, `a`
-- an attribute or an arm, `v` what octets hold, `p` a primitive, `z` a value, `b` and `c` are octets, `o` is a later refusal, `r` a
-- refusal.

-- an entry would end past the limit of a stream; a gap never does, since the limit is a multiple of every alignment
abbrev pub is_long : ℕ → Kind → Bool
is_long at (Align n) = false
is_long at (Test attr wanted found) = false
is_long at Unread = false
is_long at x = nat_lt STREAM_LIMIT (at + size_at at x)

-- what octets hold for an enumerated type is a value of it, one of its enumerators; others have no enumerators
abbrev pub is_enumerator : Option (List ℤ) → ℤ → Bool
is_enumerator None v = true
is_enumerator (Some values) v = is_value (Some (def.Enum values)) v

-- an arm is selected
abbrev pub is_selected : Option Arm → Bool
is_selected None = false
is_selected (Some a) = true

-- a text's octets with its terminator: the first zero before the last, else a last octet that is not zero
abbrev pub text_refusal : ℕ → List ℕ → Option (ℕ × Reason)
text_refusal at [] = None
text_refusal at (b ∷ []) = if b == 0 then None else Some (at, reason.TextUnended)
text_refusal at (b ∷ c ∷ bs) = if b == 0 then Some (at, reason.TextZero) else text_refusal (at + 1) (c ∷ bs)

-- the entry that an attribute speaks of: the maximum count, the offset, the actual count (for the last index too), the tag
abbrev pub kind_agrees : Attr → Kind → Bool
kind_agrees attr.Size (Max v) = true
kind_agrees attr.Max (Max v) = true
kind_agrees attr.First (Offset t v) = true
kind_agrees attr.Length (Actual t offset limit v) = true
kind_agrees attr.Last (Actual t offset limit v) = true
kind_agrees attr.Switch (Tag p values arms default v) = true
kind_agrees _ _ = false

-- a maximum count
abbrev pub is_max : Kind → Bool
is_max (Max v) = true
is_max _ = false

-- two homes are one
abbrev pub same_home : Home → Home → Bool
same_home (home.Root i) (home.Root j) = i == j
same_home (home.Cell c) (home.Cell d) = c.0 == d.0
same_home _ _ = false

-- The place of the count or tag that an attribute speaks of, among earlier entries. A home has at most one maximum count before
-- it, which is at node 0.
abbrev pub tested_at : List EntryAt → Attr → Home → ℕ → Option ℕ
tested_at [] a h n = None
tested_at (x ∷ xs) a h n =
    if kind_agrees a x.entry.kind && same_home x.entry.home h && (is_max x.entry.kind || x.entry.node == n)
    then Some x.at else tested_at xs a h n

-- a full pointer to another type of referent: types are compared by their numbers
abbrev pub other_pointee : Kind → ℕ → Bool
other_pointee (Number Full to cell) to' = not (to == to')
other_pointee _ to' = false

-- an earlier full pointer has this number and another type of referent
abbrev pub is_other : Order → List ℕ → List EntryAt → ℕ → ℕ → Bool
is_other order octets [] v to = false
is_other order octets (x ∷ xs) v to =
    other_pointee x.entry.kind to && unsigned order (piece octets x.at x.entry.kind) == v || is_other order octets xs v to

-- a refusal where a test holds, else what comes later
abbrev pub refused_if : Bool → ℕ × Reason → Option (ℕ × Reason) → Option (ℕ × Reason)
refused_if true r o = Some r
refused_if false r o = o

-- Why an entry is refused, by its kind, where its octets are all there. An enumerated value or tag is an enumerator, else EnumValue.
-- A tag selects an arm, else NoArm. A text's offset is 0, else TextOffset; its actual count is at least 1, else TextEmpty. Offset
-- and actual count end within the maximum count or bound, else PastBound. A text ends at its first zero, else TextZero or
-- TextUnended. A full pointer's number stands for one type of referent, else OtherType. An agreement holds, else Disagrees, at the count
-- or tag that it speaks of.
abbrev pub kind_refusal : Order → List ℕ → List EntryAt → ℕ → Entry → Kind → List ℕ → Option (ℕ × Reason)
kind_refusal order octets earlier at m (Num p values z) os =
    refused_if (not (is_enumerator values (value_of_octets order p os))) (at, reason.EnumValue) None
kind_refusal order octets earlier at m (Tag p values arms default z) os =
    refused_if (not (is_enumerator values (value_of_octets order p os))) (at, reason.EnumValue)
    (refused_if (not (is_selected (selected arms default (value_of_octets order p os)))) (at, reason.NoArm) None)
kind_refusal order octets earlier at m (Offset true v) os =
    refused_if (not (unsigned order os == 0)) (at, reason.TextOffset) None
kind_refusal order octets earlier at m (Actual of_text offset limit v) os =
    refused_if (of_text && unsigned order os == 0) (at, reason.TextEmpty)
    (refused_if (nat_lt limit (offset + unsigned order os)) (at, reason.PastBound) None)
kind_refusal order octets earlier at m (Text text) os = text_refusal at os
kind_refusal order octets earlier at m (Number Full to cell) os =
    refused_if (not (unsigned order os == 0) && is_other order octets earlier (unsigned order os) to) (at, reason.OtherType) None
kind_refusal order octets earlier at m (Test a wanted found) os =
    if int_eq wanted found then None else option_map (λ place. (place, reason.Disagrees wanted found)) (tested_at earlier a m.home m.node)
kind_refusal order octets earlier at m _ os = None

-- The place and the reason for which octets refuse an entry that stands after earlier ones, or none. First TooLong, at the limit;
-- then Truncated, at the octets' end; then by its kind.
abbrev pub refusal : Order → List ℕ → List EntryAt → EntryAt → Option (ℕ × Reason)
refusal order octets earlier x =
    refused_if (is_long x.at x.entry.kind) (STREAM_LIMIT, reason.TooLong)
    (refused_if (nat_lt (length octets) (x.at + size_at x.at x.entry.kind)) (length octets, reason.Truncated)
    (kind_refusal order octets earlier x.at x.entry x.entry.kind (piece octets x.at x.entry.kind)))

-- none of these entries is refused, each after the earlier ones
abbrev pub Accepts : Order → List ℕ → List EntryAt → List EntryAt → Type 0
Accepts order octets earlier [] = Unit {0}
Accepts order octets earlier (x ∷ xs) = (refusal order octets earlier x ≡ None) × Accepts order octets (earlier ++ x ∷ []) xs

-- ## The first faulty place

-- `w` is a setting.

-- The octets are refused at a place: the stream of some partial graph has an entry that they refuse there for this reason, and
-- every entry before it they spell and do not refuse. (After an unread value nothing is reached: none is ever spelled.)
pub record Bad (w : Setting) (order : Order) (octets : List ℕ) (place : ℕ) (why : Reason) : Type 0 where
  pub partial : Graph
  pub is_partial : IsPartial w partial
  pub entries : List Entry
  pub stream : Stream w partial entries
  pub earlier : List EntryAt
  pub here : EntryAt
  pub later : List EntryAt
  pub split : end_to_end 0 entries ≡ earlier ++ here ∷ later
  pub numbering : ℕ → ℕ
  pub is_numbering : IsNumbering numbering (full_cells entries)
  pub rendered : AllByRecursion (IsRendered order numbering octets) earlier
  pub accepted : Accepts order octets [] earlier
  pub refused : refusal order octets earlier here ≡ Some (place, why)
