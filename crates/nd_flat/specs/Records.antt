-- Structs of numbers side by side, as the elements of an array are: each number begins at a multiple of its width from where its struct begins, and
-- each struct at a multiple of the width of its widest number.
-- `o` is an order, `p` a primitive, `ps` are the members of a struct by their primitives, `at` is a place in a struct, `n` a number of structs, `os`
-- are octets.
use Rattle.std.specs.Prelude.{◌≡◌, ℕ, ◌+◌, ◌-◌, ◌*◌, ◌%◌, ◌<◌, ◌≤◌, zero, suc, ℤ, max, List, [], ◌∷◌, ◌++◌, length, take, drop, slice_index_or}
use Rattle.nd_base.specs.declared.octets.Order.{Order}
use Rattle.nd_base.specs.declared.octets.Order.TheVariants.{Little}
use Rattle.nd_types.specs.declared.types.Primitive.TheVariants.{Byte}
use Rattle.nd_types.specs.declared.types.Primitive.{Primitive}
use Rattle.nd_types.specs.Table.{width}
use Rattle.nd_types.specs.Number.{value_of_octets}
use Rattle.nd_value.specs.Tree as tree
use Rattle.nd_value.specs.Tree.{Flat}
use Rattle.nd_flat.specs.declared.records.Members.{Members}
use Rattle.nd_flat.specs.declared.records.Records.{Records}
use Rattle.nd_flat.specs.declared.records.KeptRecords.{KeptRecords}
use Rattle.nd_flat.specs.declared.records.RecordsLeft.{RecordsLeft}

-- ## Places

-- the length of the gap from a place up to the next multiple
abbrev pub gap : ℕ → ℕ → ℕ
gap at n = (n - at % n) % n

-- where a number is that comes next after a place
abbrev pub place : ℕ → Primitive → ℕ
place at p = at + gap at (width p)

-- where members end of which the first comes next after a place
abbrev pub end_from : ℕ → List Primitive → ℕ
end_from at [] = at
end_from at (p ∷ ps) = end_from (place at p + width p) ps

-- the greatest width of members, and at least `w`
abbrev pub widest_from : ℕ → List Primitive → ℕ
widest_from w [] = w
widest_from w (p ∷ ps) = widest_from (max w (width p)) ps

-- from where a struct begins to where the next one does
abbrev pub stride : List Primitive → ℕ
stride ps = end_from 0 ps + gap (end_from 0 ps) (widest_from 1 ps)

-- how many octets so many structs have: there is no gap after the last
abbrev pub records_len : List Primitive → ℕ → ℕ
records_len ps zero = 0
records_len ps (suc n) = n * stride ps + end_from 0 ps

-- ## Nodes

-- the nodes of members of which the first comes next after a place; `os` are the octets from where the struct begins on
abbrev pub member_flats : Order → ℕ → List Primitive → List ℕ → List Flat
member_flats o at [] os = []
member_flats o at (p ∷ ps) os =
    (tree.Num (value_of_octets o p (take (width p) (drop (place at p) os))), 0) ∷ member_flats o (place at p + width p) ps os

-- the nodes of so many structs, one for each struct and one for each of its members
abbrev pub records_flats : Order → List Primitive → ℕ → List ℕ → List Flat
records_flats o ps zero os = []
records_flats o ps (suc n) os = (tree.Rec, length ps) ∷ (member_flats o 0 ps os ++ records_flats o ps n (drop (stride ps) os))

-- ## Structs that are handed over

abbrev pub IsMembers : Members → Type 0
IsMembers m = m.len ≤ length m.prims

abbrev pub members_of : Members → List Primitive
members_of m = take m.len m.prims

-- as many octets as the structs have
pub record IsRecords (r : Records) : Type 0 where
  pub members : IsMembers r.members
  pub octets : length r.octets.now ≡ records_len (members_of r.members) r.count

abbrev pub all_records : Records → List Flat
all_records r = records_flats r.order (members_of r.members) r.count r.octets.now

-- ## Structs that are kept

-- the octets of some structs are there
pub record HasRecords (os : List ℕ) (k : KeptRecords) : Type 0 where
  pub members : IsMembers k.members
  pub there : k.from + records_len (members_of k.members) k.count ≤ length os
  pub some : 0 < k.count

abbrev pub kept_flats : List ℕ → KeptRecords → List Flat
kept_flats os k = records_flats k.order (members_of k.members) k.count (drop k.from os)

-- ## What is left of structs in which a walk is

abbrev pub members_left : RecordsLeft → List Primitive
members_left r = drop r.next (members_of r.members)

-- the nodes of the members that are left of one struct, and of the structs after it
abbrev pub records_left : List ℕ → RecordsLeft → List Flat
records_left os r =
    member_flats r.order r.at (members_left r) (drop r.from os)
    ++ records_flats r.order (members_of r.members) r.count (drop (r.from + stride (members_of r.members)) os)

-- their octets are there
pub record HasLeft (os : List ℕ) (r : RecordsLeft) : Type 0 where
  pub members : IsMembers r.members
  pub next : r.next ≤ r.members.len
  pub ends : end_from r.at (members_left r) ≤ end_from 0 (members_of r.members)
  pub there : r.from + (r.count * stride (members_of r.members) + end_from 0 (members_of r.members)) ≤ length os

-- nothing is left
abbrev pub IsOver : RecordsLeft → Type 0
IsOver r = (r.members.len ≤ r.next) × (r.count ≡ 0)

abbrev pub no_records : RecordsLeft
no_records = record {
  order = Little;
  members = record { len = 0; prims = Byte ∷ Byte ∷ Byte ∷ Byte ∷ Byte ∷ Byte ∷ Byte ∷ Byte ∷ Byte ∷ [] };
  next = 0;
  count = 0;
  from = 0;
  at = 0;
}

-- the next member
abbrev pub next_prim : RecordsLeft → Primitive
next_prim r = slice_index_or r.members.prims r.next Byte

-- its number
abbrev pub next_value : List ℕ → RecordsLeft → ℤ
next_value os r = value_of_octets r.order (next_prim r) (take (width (next_prim r)) (drop (r.from + place r.at (next_prim r)) os))

-- after the next member
abbrev pub member_passed : RecordsLeft → RecordsLeft
member_passed r = record {
  order = r.order;
  members = r.members;
  next = r.next + 1;
  count = r.count;
  from = r.from;
  at = place r.at (next_prim r) + width (next_prim r);
}

-- before the members of the next struct
abbrev pub next_begun : RecordsLeft → RecordsLeft
next_begun r = record {
  order = r.order;
  members = r.members;
  next = 0;
  count = r.count - 1;
  from = r.from + stride (members_of r.members);
  at = 0;
}

-- the structs after the one in which a walk is
abbrev pub after_this : RecordsLeft → KeptRecords
after_this r = record { order = r.order; members = r.members; count = r.count; from = r.from + stride (members_of r.members) }

-- before the members of the first struct
abbrev pub first_begun : KeptRecords → RecordsLeft
first_begun k = record { order = k.order; members = k.members; next = 0; count = k.count - 1; from = k.from; at = 0 }

-- after so many structs
abbrev pub some_passed : ℕ → KeptRecords → RecordsLeft
some_passed n k = record {
  order = k.order;
  members = k.members;
  next = k.members.len;
  count = k.count - n;
  from = k.from + (n - 1) * stride (members_of k.members);
  at = 0;
}
