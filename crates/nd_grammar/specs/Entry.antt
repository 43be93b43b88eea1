-- The entries of a stream: what is in it, entry by entry, and at which place; and the entries of a value.
use Rattle.std.specs.Prelude.{ℕ, ◌+◌, ◌-◌, ◌%◌, ℤ, Bool, true, false, List, [], ◌∷◌, ◌++◌, length, Option, Some, None}
use Rattle.nd_types.specs.declared.types.Arm.{Arm}
use Rattle.nd_types.specs.declared.types.Attr.{Attr}
use Rattle.nd_types.specs.declared.types.Class.{Class}
use Rattle.nd_types.specs.declared.types.Class.TheVariants.{Full}
use Rattle.nd_types.specs.declared.types.Primitive.{Primitive}
use Rattle.nd_types.specs.declared.types.TypeDef.{TypeDef}
use Rattle.nd_types.specs.declared.types.TypeDef.TheVariants as def
use Rattle.nd_types.specs.declared.types.Primitive.TheVariants.{Short}
use Rattle.nd_types.specs.Table.{width, Table, type_at}
use Rattle.nd_types.specs.Layout.{align_of, hoists}
use Rattle.nd_value.specs.declared.item.Home.{Home}
use Rattle.nd_value.specs.Tree as tree
use Rattle.nd_value.specs.Tree.{Tree, Trees, node, none, more, count, node_count, Label, is_pointer}
use Rattle.nd_value.specs.Agreement.{Agreement, found_in}
use Rattle.nd_value.specs.Nodes.{child_types, child_agreements, first_agreements, rest_agreements}

-- ## Entries and their places

-- `m` is an entry, `at` its place, `h` a home, `n` a number of octets, `v` a count, `t` whether a count is a text's, `p` a
-- primitive, `z` its value, `c` the number of a cell.

-- What an entry is, with all that is needed to judge its octets.
pub data Kind : Type 0 where
  -- a gap up to the next multiple, maybe empty
  Align : (to : ℕ) → Kind
  -- counts, each an unsigned long: maximum count, offset, actual count, and the count of a pipe's chunk; an actual count's limit is
  -- the bound of its type, or its maximum count where the type has none
  Max : (value : ℕ) → Kind
  Offset : (of_text : Bool) (value : ℕ) → Kind
  Actual : (of_text : Bool) (offset limit value : ℕ) → Kind
  Chunk : (value : ℕ) → Kind
  -- a pointer's number, an unsigned long: the pointer's class, its referent's type, and the cell that it names
  Number : (class : Class) (to : ℕ) (cell : Option ℕ) → Kind
  -- a number in a primitive's octets; where it is enumerated, its enumerators
  Num : (carrier : Primitive) (values : Option (List ℤ)) (value : ℤ) → Kind
  Tag : (carrier : Primitive) (values : Option (List ℤ)) (arms : List Arm) (default : Option Arm) (value : ℤ) → Kind
  -- the octets of a text, and its terminator
  Text : (octets : List ℕ) → Kind
  Context : (attributes : ℕ) (id : List ℕ) → Kind
  -- an agreement that is tried here, as an entry of its subject's home and node; it has no octets
  Test : (attr : Attr) (wanted found : ℤ) → Kind
  -- a value that is not read: nothing stands here, nor after it
  Unread : Kind

-- an entry of a node of a home
pub record Entry : Type 0 where
  pub home : Home
  pub node : ℕ
  pub kind : Kind

-- the length of the gap from a place up to the next multiple
abbrev pub gap : ℕ → ℕ → ℕ
gap at n = (n - at % n) % n

-- how many octets an entry has at a place
abbrev pub size_at : ℕ → Kind → ℕ
size_at at (Align n) = gap at n
size_at at (Max v) = 4
size_at at (Offset t v) = 4
size_at at (Actual t offset limit v) = 4
size_at at (Chunk v) = 4
size_at at (Number class to cell) = 4
size_at at (Num p values z) = width p
size_at at (Tag p values arms default z) = width p
size_at at (Text octets) = length octets + 1
size_at at (Context attributes id) = 20
size_at at (Test attr wanted found) = 0
size_at at Unread = 0

-- an entry at its place
pub record EntryAt : Type 0 where
  pub at : ℕ
  pub entry : Entry

-- the entries end to end from a place on
abbrev pub end_to_end : ℕ → List Entry → List EntryAt
end_to_end at [] = []
end_to_end at (m ∷ ms) = record { at = at; entry = m } ∷ end_to_end (at + size_at at m.kind) ms

-- the place after them
abbrev pub end_of : ℕ → List Entry → ℕ
end_of at [] = at
end_of at (m ∷ ms) = end_of (at + size_at at m.kind) ms

-- the cell that a full pointer names
abbrev pub full_cell : Kind → List ℕ
full_cell (Number Full to (Some c)) = c ∷ []
full_cell _ = []

-- the cells that full pointers name, entry by entry
abbrev pub full_cells : List Entry → List ℕ
full_cells [] = []
full_cells (m ∷ ms) = full_cell m.kind ++ full_cells ms

-- ## The entries of a value in its place (C706 14.3.3 to 14.3.11), and of a value as a whole

-- Where C706 leaves it open the choice is this project's: a union has no gap of its own, since its tag and its arm are each aligned by
-- their own types; and no gap stands for an array that has no elements. `t` is a type's number, `h` a home, `n` a node's number, `l` its
-- label, `ks` are its children, `ts` the values after it, `z` is a number, `v` a tag, `c` the number of a cell, `a` an agreement.

-- a varying array begins with its offset and its actual count
abbrev pub counts : Bool → ℕ → ℕ → ℕ → List Kind
counts false max offset n = []
counts true max offset n = Align 4 ∷ Offset false offset ∷ Actual false offset max n ∷ []

-- a union begins with its tag, aligned as the tag's type
abbrev pub tag_entries : Option TypeDef → List Arm → Option Arm → ℤ → List Kind
tag_entries (Some (def.Prim p)) arms default v = Align (width p) ∷ Tag p None arms default v ∷ []
tag_entries (Some (def.Enum values)) arms default v = Align 2 ∷ Tag Short (Some values) arms default v ∷ []
tag_entries _ arms default v = Unread ∷ []

-- What stands of a node before its children, by its type: gaps, counts, numbers. A node that has not the form of its type stands
-- as one that is not read.
abbrev pub before_children : Table → ℕ → Option TypeDef → Label → Trees → List Kind
before_children table t (Some (def.Prim p)) (tree.Num z) ks = Align (width p) ∷ Num p None z ∷ []
before_children table t (Some (def.Enum values)) (tree.Num z) ks = Align 2 ∷ Num Short (Some values) z ∷ []
before_children table t (Some (def.Struct members)) tree.Rec ks = Align (align_of table t) ∷ []
before_children table t (Some (def.Array elem bound varying)) (tree.Arr max offset) ks = counts varying max offset (count ks)
before_children table t (Some (def.Text elem bound)) (tree.Text max octets) ks =
    Align 4 ∷ Offset true 0 ∷ Actual true 0 max (length octets + 1) ∷ Text octets ∷ []
before_children table t (Some (def.Union tag encapsulated arms default)) (tree.Union v) ks = tag_entries (type_at table tag.0) arms default v
before_children table t (Some (def.Pointer class to)) (tree.Ptr c) ks = Align 4 ∷ Number class to.0 c ∷ []
before_children table t (Some def.Context) (tree.Context attributes id) ks = Align 4 ∷ Context attributes id ∷ []
before_children table t _ _ ks = Unread ∷ []

-- these kinds as entries of a node
abbrev pub entries : Home → ℕ → List Kind → List Entry
entries h n [] = []
entries h n (x ∷ xs) = record { home = h; node = n; kind = x } ∷ entries h n xs

-- the agreements of a subject
abbrev pub tests : Home → ℕ → Tree → List Agreement → List Entry
tests h n t [] = []
tests h n t (a ∷ rest) = record { home = h; node = n; kind = Test a.attr a.wanted (found_in a.attr t) } ∷ tests h n t rest

-- a pointer's agreements are tried where its referent stands, all others here
abbrev pub own_tests : Bool → Home → ℕ → Tree → List Agreement → List Entry
own_tests true h n t agreements = []
own_tests false h n t agreements = tests h n t agreements

-- the agreements of the children that are no pointers, in their order
abbrev pub child_tests : Home → List (List Agreement) → ℕ → Trees → List Entry
child_tests h agreements n none = []
child_tests h agreements n (more (node l ks) ts) =
    own_tests (is_pointer l) h n (node l ks) (first_agreements agreements) ++ child_tests h (rest_agreements agreements) (n + 1 + node_count ks) ts

-- Values of these types, from node n on: what is before the children, the children, the agreements of the children, the next
-- value.
abbrev pub in_place : Table → Home → List ℕ → ℕ → Trees → List Entry
in_place table h types n none = []
in_place table h [] n (more t ts) = []
in_place table h (t ∷ types) n (more (node l ks) ts) =
    entries h n (before_children table t (type_at table t) l ks)
    ++ (in_place table h (child_types (type_at table t) l ks) (n + 1) ks
    ++ (child_tests h (child_agreements (type_at table t) ks) (n + 1) ks
    ++ in_place table h types (n + 1 + node_count ks) ts))

-- an array or text has a maximum count of its own; of others that of what ends them counts
abbrev pub own_max : Label → ℕ → ℕ
own_max (tree.Arr max offset) inner = max
own_max (tree.Text max octets) inner = max
own_max _ inner = inner

-- The maximum count of the last of trees, or of its last child, and so on. `m` is that of the trees which were passed already: 0 at
-- the beginning, and what is left of it after the last.
abbrev pub hoisted_max : ℕ → Trees → ℕ
hoisted_max m none = m
hoisted_max m (more (node l ks) ts) = hoisted_max (own_max l (hoisted_max 0 ks)) ts

-- a maximum count is before the whole value, aligned as itself
abbrev pub hoisted : Bool → Label → ℕ → List Kind
hoisted true tree.Unread m = []
hoisted true l m = Align 4 ∷ Max m ∷ []
hoisted false l m = []

-- a value as a whole: its hoisted maximum count where its type has one (before the outermost struct and its gap), then its entries
abbrev pub whole_value : Table → Home → ℕ → Tree → List Entry
whole_value table h t (node l ks) =
    entries h 0 (hoisted (hoists table t) l (hoisted_max 0 (more (node l ks) none)))
    ++ in_place table h (t ∷ []) 0 (more (node l ks) none)
