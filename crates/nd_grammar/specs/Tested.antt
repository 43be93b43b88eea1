-- What an agreement that is tried in a stream speaks of: an earlier count or tag of its subject.
-- `a` is an attribute, `h` the home of its subject, `n` the subject's number in it, `found` the number that was found there, `v`
-- the value of a count or tag, `x` an entry at its place.
use Rattle.std.specs.Prelude.{◌≡◌, ℕ, ◌+◌, ℤ, pos, ◌-ℤ◌}
use Rattle.nd_types.specs.declared.types.Attr.{Attr}
use Rattle.nd_types.specs.declared.types.Attr.TheVariants as attr
use Rattle.nd_value.specs.declared.item.Home.{Home}
use Rattle.nd_grammar.specs.Entry.{Kind, Max, Offset, Actual, Tag, Unread, EntryAt}

-- An entry is the count or tag that an attribute speaks of, and holds what was found: size_is and max_is speak of the maximum count,
-- first_is of the offset, length_is of the actual count, last_is of the last index that offset and actual count come to, switch_is of
-- the tag.
abbrev pub HoldsFound : Attr → ℤ → Kind → Type 0
HoldsFound attr.Size found (Max v) = found ≡ pos v
HoldsFound attr.Max found (Max v) = found ≡ pos v
HoldsFound attr.First found (Offset of_text v) = found ≡ pos v
HoldsFound attr.Length found (Actual of_text offset limit v) = found ≡ pos v
HoldsFound attr.Last found (Actual of_text offset limit v) = found ≡ pos (offset + v) -ℤ pos 1
HoldsFound attr.Switch found (Tag p values arms default v) = found ≡ v
HoldsFound _ found _ = ⊥

-- where it is in its home: a maximum count in front of the home's value, all else at the subject's node
abbrev pub node_of : Attr → ℕ → ℕ
node_of attr.Size n = 0
node_of attr.Max n = 0
node_of _ n = n

-- the entry that an attribute of a subject speaks of
pub record IsSpokenOf (a : Attr) (h : Home) (n : ℕ) (found : ℤ) (x : EntryAt) : Type 0 where
  pub home : x.entry.home ≡ h
  pub node : x.entry.node ≡ node_of a n
  pub holds : HoldsFound a found x.entry.kind

-- an entry that was read
abbrev pub IsReadAt : EntryAt → Type 0
IsReadAt x = ¬ (x.entry.kind ≡ Unread)
