-- The plain reader in parts: the gap before a value, what comes after the gap, and what comes after each count or tag within a value. The
-- parts are those of `read_by` (nd_grammar: specs/Reader).
-- `d` is what a type is, `n` a node's number, `p` the progress, `s` the names, `m` the maximum count before the whole value, `read` the reader of
-- the children, `o` an offset, `c` an actual count less the terminator, `z` a tag.
use Rattle.std.specs.Prelude.{ℕ, ◌+◌, ◌-◌, ℤ, pos, Bool, true, false, List, [], map, replicate, Option, Some, None}
use Rattle.nd_base.specs.declared.octets.Order.{Order}
use Rattle.nd_types.specs.declared.types.TypeDef.{TypeDef}
use Rattle.nd_types.specs.declared.types.TypeDef.TheVariants as def
use Rattle.nd_types.specs.declared.types.Arm.{Arm}
use Rattle.nd_types.specs.declared.types.Class.{Class}
use Rattle.nd_types.specs.declared.types.Primitive.{Primitive}
use Rattle.nd_types.specs.declared.types.Primitive.TheVariants.{Short}
use Rattle.nd_types.specs.Table.{Table, type_at, width}
use Rattle.nd_types.specs.Layout.{align_of}
use Rattle.nd_value.specs.declared.item.Home.{Home}
use Rattle.nd_value.specs.Tree as tree
use Rattle.nd_value.specs.Tree.{node, none}
use Rattle.nd_value.specs.Setting.{unread}
use Rattle.nd_value.specs.Nodes.{child_types}
use Rattle.nd_grammar.specs.Entry.{Kind, Align, Max, Offset, Actual, Number, Num, Tag, Text, Context}
use Rattle.nd_grammar.specs.Reader.{Progress, Names, Named, Read, pass, taken, number_in, value_in, text_in, attributes_in, identifier_in, named}
use Rattle.nd_grammar.specs.Reader.{bound_or, entry, read_children, read_in_place}

-- The reader of a child: its type, its node's number, the progress and the names.
abbrev pub Reader : Type 0
Reader = ℕ → ℕ → Progress → Names → Read

-- the alignment before a value in its place; an array that does not vary has no gap of its own
abbrev pub tag_gap : Option TypeDef → Option ℕ
tag_gap (Some (def.Prim p)) = Some (width p)
tag_gap (Some (def.Enum values)) = Some 2
tag_gap _ = None

abbrev pub array_gap : Bool → Option ℕ
array_gap false = None
array_gap true = Some 4

abbrev pub gap_of : Table → ℕ → Option TypeDef → Option ℕ
gap_of table t (Some (def.Prim p)) = Some (width p)
gap_of table t (Some (def.Enum values)) = Some 2
gap_of table t (Some (def.Struct members)) = Some (align_of table t)
gap_of table t (Some (def.Array elem bound varying)) = array_gap varying
gap_of table t (Some (def.Text elem bound)) = Some 4
gap_of table t (Some (def.Union tag encapsulated arms default)) = tag_gap (type_at table tag.0)
gap_of table t (Some (def.Pointer class to)) = Some 4
gap_of table t (Some def.Context) = Some 4
gap_of table t _ = None

module _ (order : Order) (octets : List ℕ) (table : Table) (h : Home) where
  abbrev of_node : ℕ → Kind → Progress → Progress
  of_node n k p = pass order octets (entry order octets table h n k) p

  abbrev octets_of : ℕ → Kind → Progress → Option (List ℕ)
  octets_of n k p = taken order octets (entry order octets table h n k) p

  abbrev pub past_gap : ℕ → Option ℕ → Progress → Progress
  past_gap n None p = p
  past_gap n (Some a) p = of_node n (Align a) p

  -- ## What comes after the gap, form by form

  abbrev pub number_after : ℕ → Primitive → Option (List ℤ) → Progress → Names → Read
  number_after n prim values p s =
      let z : ℤ = value_in order octets prim (octets_of n (Num prim values (pos 0)) p) in
      record { tree = node (tree.Num z) none; progress = of_node n (Num prim values z) p; names = s }

  -- a varying array after its offset: the actual count and the elements
  abbrev pub array_after_offset : Reader → Option TypeDef → ℕ → ℕ → ℕ → ℕ → Progress → Names → Read
  array_after_offset read d max elem n o p s =
      let c : ℕ = number_in order octets (octets_of n (Actual false o max 0) p) in
      read_children order octets table h read d n (tree.Arr max o) (replicate c elem) (of_node n (Actual false o max c) p) s

  abbrev pub array_after : Reader → Option TypeDef → Bool → ℕ → ℕ → ℕ → Progress → Names → Read
  array_after read d false max elem n p s = read_children order octets table h read d n (tree.Arr max 0) (replicate max elem) p s
  array_after read d true max elem n p s =
      let o : ℕ = number_in order octets (octets_of n (Offset false 0) p) in
      array_after_offset read d max elem n o (of_node n (Offset false o) p) s

  -- a text after its actual count: so many octets, and the terminator
  abbrev pub text_after_count : ℕ → ℕ → ℕ → Progress → Names → Read
  text_after_count max c n p s =
      let os : List ℕ = text_in order octets c (octets_of n (Text (replicate c 0)) p) in
      record { tree = node (tree.Text max os) none; progress = of_node n (Text os) p; names = s }

  -- a text after its offset
  abbrev pub text_after_offset : ℕ → ℕ → Progress → Names → Read
  text_after_offset max n p s =
      let c : ℕ = number_in order octets (octets_of n (Actual true 0 max 0) p) in
      text_after_count max (c - 1) n (of_node n (Actual true 0 max (c - 1 + 1)) p) s

  abbrev pub text_after : ℕ → ℕ → Progress → Names → Read
  text_after max n p s = text_after_offset max n (of_node n (Offset true 0) p) s

  -- a union whose tag is known: the tag is passed, and the selected arm is read
  abbrev pub union_tagged : Reader → Option TypeDef → ℕ → Primitive → Option (List ℤ) → List Arm → Option Arm → ℤ → Progress → Names → Read
  union_tagged read d n prim values arms default z p s =
      read_children order octets table h read d n (tree.Union z) (child_types d (tree.Union z) none) (of_node n (Tag prim values arms default z) p) s

  abbrev pub union_after : Reader → Option TypeDef → ℕ → Primitive → Option (List ℤ) → List Arm → Option Arm → Progress → Names → Read
  union_after read d n prim values arms default p s =
      union_tagged read d n prim values arms default (value_in order octets prim (octets_of n (Tag prim values arms default (pos 0)) p)) p s

  abbrev pub tagged_after : Reader → Option TypeDef → Option TypeDef → ℕ → List Arm → Option Arm → Progress → Names → Read
  tagged_after read d (Some (def.Prim prim)) n arms default p s = union_after read d n prim None arms default p s
  tagged_after read d (Some (def.Enum values)) n arms default p s = union_after read d n Short (Some values) arms default p s
  tagged_after read d _ n arms default p s = record { tree = unread; progress = p; names = s }

  abbrev pub pointer_after : Class → ℕ → ℕ → Progress → Names → Read
  pointer_after k to n p s =
      let os : Option (List ℕ) = octets_of n (Number k to None) p in
      let it : Named = named k to os (number_in order octets os) s in
      record { tree = node (tree.Ptr it.cell) none; progress = of_node n (Number k to it.cell) p; names = it.names }

  abbrev pub context_after : ℕ → Progress → Names → Read
  context_after n p s =
      let os : Option (List ℕ) = octets_of n (Context 0 []) p in
      let a : ℕ = attributes_in order octets os in
      let id : List ℕ = identifier_in order octets os in
      record { tree = node (tree.Context a id) none; progress = of_node n (Context a id) p; names = s }

  -- a value after its gap
  abbrev pub after_gap : Reader → ℕ → ℕ → Option TypeDef → ℕ → Progress → Names → Read
  after_gap read m t (Some (def.Prim prim)) n p s = number_after n prim None p s
  after_gap read m t (Some (def.Enum values)) n p s = number_after n Short (Some values) p s
  after_gap read m t (Some (def.Struct members)) n p s =
      read_children order octets table h read (Some (def.Struct members)) n tree.Rec (map (λ f. f.of.0) members) p s
  after_gap read m t (Some (def.Array elem bound varying)) n p s =
      array_after read (Some (def.Array elem bound varying)) varying (bound_or bound m) elem.0 n p s
  after_gap read m t (Some (def.Text elem bound)) n p s = text_after (bound_or bound m) n p s
  after_gap read m t (Some (def.Union tag encapsulated arms default)) n p s =
      tagged_after read (Some (def.Union tag encapsulated arms default)) (type_at table tag.0) n arms default p s
  after_gap read m t (Some (def.Pointer class to)) n p s = pointer_after class to.0 n p s
  after_gap read m t (Some def.Context) n p s = context_after n p s
  after_gap read m t _ n p s = record { tree = unread; progress = p; names = s }

  -- a home whose type hoists, after the gap of four: its maximum count, then the value
  abbrev pub hoisted_after : ℕ → Progress → Names → Read
  hoisted_after t p s =
      let m : ℕ = number_in order octets (octets_of 0 (Max 0) p) in
      read_in_place order octets table h 32 m t 0 (of_node 0 (Max m) p) s
