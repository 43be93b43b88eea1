-- Nodes as they are kept, and what contracts see of them.
-- `os` are the octets of all texts, `n` is a node or a number, `k` a number of children.
use Rattle.std.specs.Prelude.{◌≡◌, ℕ, ◌+◌, ◌-◌, ◌^◌, ◌<◌, ◌≤◌, ◌≤ℤ◌, ℤ, pos, negsuc, Bool, true, false, List, [], ◌∷◌, length, take, drop, map, ◌++◌}
use Rattle.std.specs.Prelude.{◌*◌, zero, suc, Some, None, if◌then◌else◌, nat_le}
use Rattle.std.specs.List.{AllByRecursion}
use Rattle.nd_value.specs.Tree as tree
use Rattle.nd_value.specs.Tree.{Flat, Label, Trees, node, none, more}
use Rattle.nd_value.specs.Seen.{cell_number}
use Rattle.nd_base.specs.declared.octets.Order.{Order}
use Rattle.nd_base.specs.declared.octets.Order.TheVariants.{Little}
use Rattle.nd_types.specs.declared.types.Primitive.TheVariants.{Byte}
use Rattle.nd_types.specs.declared.types.Primitive.{Primitive}
use Rattle.nd_types.specs.Table.{width}
use Rattle.nd_types.specs.Number.{value_of_octets}
use Rattle.nd_flat.specs.declared.row.KeptRow.{KeptRow}
use Rattle.nd_flat.specs.declared.row.Row.{Row}
use Rattle.nd_flat.specs.declared.records.RecordsLeft.{RecordsLeft}
use Rattle.nd_flat.specs.Records.{HasRecords, HasLeft, kept_flats, records_left, first_begun}
use Rattle.nd_flat.specs.declared.node.Node.{Node}
use Rattle.nd_flat.specs.declared.node.Node.TheVariants as kept
use Rattle.nd_flat.specs.declared.node.Seen.{Seen}
use Rattle.nd_flat.specs.declared.node.Seen.TheVariants as seen
use Rattle.nd_flat.specs.Forest.{IsForest}

-- a union has one child, or none
abbrev pub armed_count : Bool → ℕ
armed_count true = 1
armed_count false = 0

-- a node with the number of its children, as callers see it
abbrev pub flat_seen : Seen → Flat
flat_seen (seen.Num z) = (tree.Num z, 0)
flat_seen (seen.Rec k) = (tree.Rec, k)
flat_seen (seen.Arr max offset k) = (tree.Arr max offset, k)
flat_seen (seen.Text max octets) = (tree.Text max octets.now, 0)
flat_seen (seen.Union tag armed) = (tree.Union tag, armed_count armed)
flat_seen (seen.Ptr cell) = (tree.Ptr (cell_number cell), 0)
flat_seen (seen.Context attributes id) = (tree.Context attributes id, 0)
flat_seen (seen.Pipe k) = (tree.Pipe, k)

-- so many numbers that octets hold, one after the other
abbrev pub row_values : Order → Primitive → ℕ → List ℕ → List ℤ
row_values o p zero os = []
row_values o p (suc n) os = value_of_octets o p (take (width p) os) ∷ row_values o p n (drop (width p) os)

-- a number as a node
abbrev pub num_flat : ℤ → Flat
num_flat z = (tree.Num z, 0)

-- the nodes of a row of numbers
abbrev pub num_flats : List ℤ → List Flat
num_flats zs = map num_flat zs

-- numbers as trees
abbrev pub num_trees : List ℤ → Trees
num_trees [] = none
num_trees (z ∷ zs) = more (node (tree.Num z) none) (num_trees zs)

-- the numbers of a row that is handed over
abbrev pub row_numbers : Row → List ℤ
row_numbers r = row_values r.order r.of r.count r.octets.now

-- as many octets as its numbers have
abbrev pub IsRow : Row → Type 0
IsRow r = length r.octets.now ≡ r.count * width r.of

-- the nodes of a row of numbers among the octets
abbrev pub row_flats : List ℕ → KeptRow → List Flat
row_flats os r = num_flats (row_values r.order r.of r.count (drop r.from os))

-- the octets of a row are there
abbrev pub HasRow : List ℕ → KeptRow → Type 0
HasRow os r = r.from + r.count * width r.of ≤ length os

-- a row without its first numbers
abbrev pub without_first : ℕ → KeptRow → KeptRow
without_first k r = record { order = r.order; of = r.of; count = r.count - k; from = r.from + k * width r.of }

-- a row of no numbers
abbrev pub no_row : KeptRow
no_row = record { order = Little; of = Byte; count = 0; from = 0 }

-- The same as it is kept: one node, except a row, which is as many as it has numbers, and structs of numbers, which are one each and one for each of
-- their members.
abbrev pub seen_nodes : List ℕ → Node → List Flat
seen_nodes os (kept.Num n) = (tree.Num (pos n), 0) ∷ []
seen_nodes os (kept.Negative n) = (tree.Num (negsuc n), 0) ∷ []
seen_nodes os (kept.Rec k) = (tree.Rec, k) ∷ []
seen_nodes os (kept.Arr max offset k) = (tree.Arr max offset, k) ∷ []
seen_nodes os (kept.Text max len from) = (tree.Text max (take len (drop from os)), 0) ∷ []
seen_nodes os (kept.ShortText max len short) = (tree.Text max (take len short), 0) ∷ []
seen_nodes os (kept.Tag tag armed) = (tree.Union (pos tag), armed_count armed) ∷ []
seen_nodes os (kept.NegativeTag tag armed) = (tree.Union (negsuc tag), armed_count armed) ∷ []
seen_nodes os kept.Null = (tree.Ptr None, 0) ∷ []
seen_nodes os (kept.Ptr cell) = (tree.Ptr (Some cell.0), 0) ∷ []
seen_nodes os (kept.Context attributes id) = (tree.Context attributes id, 0) ∷ []
seen_nodes os (kept.Pipe k) = (tree.Pipe, k) ∷ []
seen_nodes os (kept.Row r) = row_flats os r
seen_nodes os (kept.Records o m n from) = kept_flats os (record { order = o; members = m; count = n; from = from })

-- what is left of a node after the first that it is seen as
abbrev pub after_first : List ℕ → Node → List Flat
after_first os (kept.Row r) = row_flats os (without_first 1 r)
after_first os (kept.Records o m n from) = records_left os (first_begun (record { order = o; members = m; count = n; from = from }))
after_first os _ = []

-- all nodes
abbrev pub flats : List ℕ → List Node → List Flat
flats os [] = []
flats os (n ∷ ns) = seen_nodes os n ++ flats os ns

-- the octets of a text, which are few if the node has them, of a row of some numbers, or of some structs, are there
abbrev pub HasOctets : List ℕ → Node → Type 0
HasOctets os (kept.Text max len from) = from + len ≤ length os
HasOctets os (kept.ShortText max len short) = len ≤ 15
HasOctets os (kept.Row r) = HasRow os r × (0 < r.count)
HasOctets os (kept.Records o m n from) = HasRecords os (record { order = o; members = m; count = n; from = from })
HasOctets os _ = Unit {0}

abbrev pub HaveOctets : List ℕ → List Node → Type 0
HaveOctets os ns = AllByRecursion (HasOctets os) ns

-- what is left of a walk: the rest of the row in which it is, that of the structs in which it is, and the nodes after
abbrev pub left_flats : List ℕ → KeptRow → RecordsLeft → List Node → List Flat
left_flats os r t ns = row_flats os r ++ (records_left os t ++ flats os ns)

-- what a walk goes over: whole values, and the octets of their texts, rows and structs
pub record WalkParts (os : List ℕ) (r : KeptRow) (t : RecordsLeft) (ns : List Node) : Type 0 where
  pub texts : HaveOctets os ns
  pub row : HasRow os r
  pub records : HasLeft os t
  pub forest : IsForest (left_flats os r t ns)

-- a number that a node can keep: from -2^64 to 2^64 - 1
abbrev pub IsKeepableNumber : ℤ → Type 0
IsKeepableNumber z = (negsuc (2 ^ 64 - 1) ≤ℤ z) × (z ≤ℤ pos (2 ^ 64 - 1))

-- a node that can be kept
abbrev pub IsKeepable : Label → Type 0
IsKeepable (tree.Num z) = IsKeepableNumber z
IsKeepable (tree.Union z) = IsKeepableNumber z
IsKeepable (tree.Text max octets) = length octets < 2 ^ 32
IsKeepable tree.Unread = ⊥
IsKeepable _ = Unit {0}

-- the octets of a text of more than 15 octets; those of others are kept in their nodes
abbrev pub long_text : List ℕ → List ℕ
long_text os = if nat_le (length os) 15 then [] else os

-- what a node adds to the octets that are kept
abbrev pub text_kept : Label → List ℕ
text_kept (tree.Text max octets) = long_text octets
text_kept _ = []

-- the octets of a text
abbrev pub text_of : Label → List ℕ
text_of (tree.Text max octets) = octets
text_of _ = []
