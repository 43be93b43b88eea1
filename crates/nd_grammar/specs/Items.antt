-- The items of a stream: each entry that has octets, with its place, its length and the value that the octets hold; and how many they are.
use Rattle.std.specs.Prelude.{ℕ, ℤ, pos, Bool, true, false, not, List, [], ◌∷◌, ◌++◌, length, Option, Some, None, filter}
use Rattle.nd_base.specs.declared.octets.Order.{Order}
use Rattle.nd_types.specs.Number.{unsigned, value_of_octets}
use Rattle.nd_value.specs.declared.item.Item.{Item}
use Rattle.nd_value.specs.declared.item.ItemKind.{ItemKind}
use Rattle.nd_value.specs.declared.item.ItemKind.TheVariants as item
use Rattle.nd_grammar.specs.Entry.{Kind, Align, Max, Offset, Actual, Chunk, Number, Num, Tag, Text, Context, Test, Unread, size_at, EntryAt, Entry}
use Rattle.nd_grammar.specs.Entry.{end_to_end}
use Rattle.nd_grammar.specs.Stream.{piece}

-- ## Items

-- `x` is an entry at its place, `os` are its octets, `k` is the kind and the value of an item.

-- the item of a count or of a pointer's number
abbrev pub counted : Order → ItemKind → List ℕ → Option (ItemKind × ℤ)
counted order kind os = Some (kind, pos (unsigned order os))

-- The kind of an item and its value: of a count or a pointer's number as the octets hold it, of a text its actual count, of a gap
-- and a context handle 0. An agreement has no octets and is no item, nor is an unread value.
abbrev pub item_of : Order → Kind → List ℕ → Option (ItemKind × ℤ)
item_of order (Align n) [] = None
item_of order (Align n) os = Some (item.Gap, pos 0)
item_of order (Max v) os = counted order item.Max os
item_of order (Offset of_text v) os = counted order item.Offset os
item_of order (Actual of_text offset limit v) os = counted order item.Actual os
item_of order (Chunk v) os = counted order item.Chunk os
item_of order (Number class to cell) os = counted order item.Number os
item_of order (Num p values z) os = Some (item.Num, value_of_octets order p os)
item_of order (Tag p values arms default z) os = Some (item.Tag, value_of_octets order p os)
item_of order (Text octets) os = Some (item.Text, pos (length os))
item_of order (Context attributes id) os = Some (item.Context, pos 0)
item_of order (Test attr wanted found) os = None
item_of order Unread os = None

-- a gap belongs to the home as a whole
abbrev pub item_node : Kind → ℕ → ℕ
item_node (Align n) node = 0
item_node _ node = node

-- the item of an entry, where it is one
abbrev pub item_at : EntryAt → Option (ItemKind × ℤ) → List Item
item_at x None = []
item_at x (Some k) =
    record {
      at = x.at;
      len = size_at x.at x.entry.kind;
      kind = k.0;
      home = x.entry.home;
      node = item_node x.entry.kind x.entry.node;
      value = k.1;
    } ∷ []

-- the items of entries that stand in octets
abbrev pub items : Order → List ℕ → List EntryAt → List Item
items order octets [] = []
items order octets (x ∷ xs) = item_at x (item_of order x.entry.kind (piece octets x.at x.entry.kind)) ++ items order octets xs

-- ## How many items a stream has

abbrev pub is_gap : ItemKind → Bool
is_gap item.Gap = true
is_gap _ = false

-- the items that are no gaps
abbrev pub but_gaps : List Item → List Item
but_gaps xs = filter (λ x. not (is_gap x.kind)) xs

-- how many items other than gaps the entries of a stream are
abbrev pub item_count : Order → List ℕ → List Entry → ℕ
item_count order octets ms = length (but_gaps (items order octets (end_to_end 0 ms)))
