-- Reading octets: the plain program that finds the graph of which they are a stream, or the place and the reason for which they are none.
-- It goes entry by entry. From the first entry that the octets refuse on, whatever is read is an unread value, and nothing changes any more.
use Rattle.std.specs.Prelude.{ℕ, ◌+◌, ◌-◌, suc, zero, ℤ, pos, Bool, true, false, not, ◌&&◌, if◌then◌else◌, ◌==◌, List, [], ◌∷◌, ◌++◌, length, map}
use Rattle.std.specs.Prelude.{take, drop}
use Rattle.std.specs.Prelude.{replicate, reverse, Option, Some, None}
use Rattle.nd_base.specs.declared.octets.Order.{Order}
use Rattle.nd_types.specs.declared.types.TypeDef.{TypeDef}
use Rattle.nd_types.specs.declared.types.TypeDef.TheVariants as def
use Rattle.nd_types.specs.declared.types.Arm.{Arm}
use Rattle.nd_types.specs.declared.types.Class.{Class}
use Rattle.nd_types.specs.declared.types.Class.TheVariants.{Ref, Unique, Full}
use Rattle.nd_types.specs.declared.types.Primitive.{Primitive}
use Rattle.nd_types.specs.declared.types.Primitive.TheVariants.{Short}
use Rattle.nd_types.specs.Table.{Table, type_at, width}
use Rattle.nd_types.specs.Layout.{align_of, hoists}
use Rattle.nd_types.specs.Number.{unsigned, value_of_octets, in_order}
use Rattle.nd_value.specs.declared.item.Home.{Home}
use Rattle.nd_value.specs.Tree as tree
use Rattle.nd_value.specs.Tree.{Tree, Trees, node, none, more, Label, Referent, count, node_count}
use Rattle.nd_value.specs.Setting.{unread}
use Rattle.nd_value.specs.Nodes.{child_types, child_agreements}
use Rattle.nd_grammar.specs.declared.reason.Reason.{Reason}
use Rattle.nd_grammar.specs.Entry.{Kind, Entry, Align, Max, Offset, Actual, Number, Num, Tag, Text, Context, size_at, EntryAt, child_tests}
use Rattle.nd_grammar.specs.Stream.{piece}
use Rattle.nd_grammar.specs.Refusal.{refusal}

-- how far the octets are read: the place, the entries before it, and the refusal at which reading stopped, if it did
pub record Progress : Type 0 where
  pub at : ℕ
  pub seen : List EntryAt
  pub stop : Option (ℕ × Reason)

-- the cells that pointers have named, in the order in which they did, their values unread until they stand; and the numbers of full
-- pointers with their cells, the latest first
pub record Names : Type 0 where
  pub cells : List Referent
  pub numbers : List (ℕ × ℕ)

abbrev pub is_stopped : Option (ℕ × Reason) → Bool
is_stopped None = false
is_stopped (Some r) = true

-- an entry at the place that is reached
abbrev pub here : Progress → Entry → EntryAt
here p m = record { at = p.at; entry = m }

abbrev pub advanced : Option (ℕ × Reason) → Option (ℕ × Reason) → Progress → Entry → Progress
advanced (Some r) o p m = p
advanced None (Some r) p m = record { at = p.at; seen = p.seen; stop = Some r }
advanced None None p m = record { at = p.at + size_at p.at m.kind; seen = p.seen ++ here p m ∷ []; stop = None }

abbrev pub taken_by : Option (ℕ × Reason) → Option (ℕ × Reason) → List ℕ → Option (List ℕ)
taken_by (Some r) o octets = None
taken_by None (Some r) octets = None
taken_by None None octets = Some octets

module _ (order : Order) (octets : List ℕ) where
  -- past an entry: where it is refused, reading stops
  abbrev pub pass : Entry → Progress → Progress
  pass m p = advanced p.stop (refusal order octets p.seen (here p m)) p m

  abbrev pub pass_all : List Entry → Progress → Progress
  pass_all [] p = p
  pass_all (m ∷ ms) p = pass_all ms (pass m p)

  -- the octets of an entry at the place that is reached, where they are there and not refused
  abbrev pub taken : Entry → Progress → Option (List ℕ)
  taken m p = taken_by p.stop (refusal order octets p.seen (here p m)) (piece octets p.at m.kind)

  abbrev pub number_in : Option (List ℕ) → ℕ
  number_in None = 0
  number_in (Some os) = unsigned order os

  abbrev pub value_in : Primitive → Option (List ℕ) → ℤ
  value_in p None = pos 0
  value_in p (Some os) = value_of_octets order p os

  -- a text's octets without its terminator; n zeros where it is not there
  abbrev pub text_in : ℕ → Option (List ℕ) → List ℕ
  text_in n None = replicate n 0
  text_in n (Some os) = take n os

  abbrev pub attributes_in : Option (List ℕ) → ℕ
  attributes_in None = 0
  attributes_in (Some os) = unsigned order (take 4 os)

  -- the identifier whose octets these are
  abbrev pub identifier : List ℕ → List ℕ
  identifier os =
      reverse (in_order order (take 4 os))
      ++ (reverse (in_order order (take 2 (drop 4 os))) ++ (reverse (in_order order (take 2 (drop 6 os))) ++ drop 8 os))

  abbrev pub identifier_in : Option (List ℕ) → List ℕ
  identifier_in None = replicate 16 0
  identifier_in (Some os) = identifier (drop 4 os)

-- a cell more, unread: its number, and the names with it
abbrev pub fresh : ℕ → Names → ℕ
fresh to s = length s.cells + 1

abbrev pub with_cell : ℕ → Names → Names
with_cell to s = record { cells = s.cells ++ record { of = to; val = unread } ∷ []; numbers = s.numbers }

-- the cell of a number that full pointers have had
abbrev pub numbered : List (ℕ × ℕ) → ℕ → Option ℕ
numbered [] v = None
numbered (x ∷ xs) v = if x.0 == v then Some x.1 else numbered xs v

-- a pointer's cell, and the names with it
pub record Named : Type 0 where
  pub cell : Option ℕ
  pub names : Names

abbrev pub new_cell : ℕ → Names → Named
new_cell to s = record { cell = Some (fresh to s); names = with_cell to s }

abbrev pub full_by : Option ℕ → ℕ → ℕ → Names → Named
full_by (Some c) v to s = record { cell = Some c; names = s }
full_by None v to s =
    record { cell = Some (fresh to s); names = record { cells = (with_cell to s).cells; numbers = (v, fresh to s) ∷ s.numbers } }

-- The cell that a pointer's number names: 0 is null; an embedded reference pointer names a cell of its own, whatever its number; so does
-- a unique pointer that is not null; a full pointer names the cell of an earlier one with its number, if there is one.
abbrev pub named : Class → ℕ → Option (List ℕ) → ℕ → Names → Named
named Ref to os v s = new_cell to s
named k to None v s = record { cell = None; names = s }
named Unique to (Some os) v s = if v == 0 then (record { cell = None; names = s }) else new_cell to s
named Full to (Some os) v s = if v == 0 then (record { cell = None; names = s }) else full_by (numbered s.numbers v) v to s

-- a value that was read, or several, and how far reading has come
pub record Read : Type 0 where
  pub tree : Tree
  pub progress : Progress
  pub names : Names

pub record ReadAll : Type 0 where
  pub trees : Trees
  pub progress : Progress
  pub names : Names

-- values of these types, each from the number of nodes that stand before it; where reading has stopped, unread
abbrev pub read_if : Bool → (Progress → Names → Read) → Progress → Names → Read
read_if true read p s = record { tree = unread; progress = p; names = s }
read_if false read p s = read p s

abbrev pub tree_nodes : Tree → ℕ
tree_nodes t = node_count (more t none)

-- A value whose maximum count was read before it is not left unread, since the count is its own.
abbrev pub read_list : Table → (ℕ → ℕ → Progress → Names → Read) → List ℕ → ℕ → Progress → Names → ReadAll
read_list table read [] n p s = record { trees = none; progress = p; names = s }
read_list table read (t ∷ types) n p s =
    let first : Read = read_if (is_stopped p.stop && not (hoists table t)) (read t n) p s in
    let others : ReadAll = read_list table read types (n + tree_nodes first.tree) first.progress first.names in
    record { trees = more first.tree others.trees; progress = others.progress; names = others.names }

abbrev pub bound_or : Option ℕ → ℕ → ℕ
bound_or None m = m
bound_or (Some n) m = n

module _ (order : Order) (octets : List ℕ) (table : Table) (h : Home) where
  -- an entry of a node
  abbrev pub entry : ℕ → Kind → Entry
  entry n k = record { home = h; node = n; kind = k }

  -- a number in a primitive's octets
  abbrev pub read_number : ℕ → Primitive → Option (List ℤ) → Progress → Names → Read
  read_number n prim values p s =
      let gap : Progress = pass order octets (entry n (Align (width prim))) p in
      let z : ℤ = value_in order octets prim (taken order octets (entry n (Num prim values (pos 0))) gap) in
      record { tree = node (tree.Num z) none; progress = pass order octets (entry n (Num prim values z)) gap; names = s }

  -- the children of a node that says this, and the agreements of those that are no pointers
  abbrev pub read_children : (ℕ → ℕ → Progress → Names → Read) → Option TypeDef → ℕ → Label → List ℕ → Progress → Names → Read
  read_children read d n l types p s =
      let kids : ReadAll = read_list table read types (n + 1) p s in
      record {
        tree = node l kids.trees;
        progress = pass_all order octets (child_tests h (child_agreements d kids.trees) (n + 1) kids.trees) kids.progress;
        names = kids.names;
      }

  -- an array's elements; where it varies, its offset and its actual count before them
  abbrev pub read_array : (ℕ → ℕ → Progress → Names → Read) → Option TypeDef → Bool → ℕ → ℕ → ℕ → Progress → Names → Read
  read_array read d false max elem n p s = read_children read d n (tree.Arr max 0) (replicate max elem) p s
  read_array read d true max elem n p s =
      let gap : Progress = pass order octets (entry n (Align 4)) p in
      let o : ℕ = number_in order octets (taken order octets (entry n (Offset false 0)) gap) in
      let behind : Progress = pass order octets (entry n (Offset false o)) gap in
      let c : ℕ = number_in order octets (taken order octets (entry n (Actual false o max 0)) behind) in
      read_children read d n (tree.Arr max o) (replicate c elem) (pass order octets (entry n (Actual false o max c)) behind) s

  abbrev pub read_text : ℕ → ℕ → Progress → Names → Read
  read_text max n p s =
      let gap : Progress = pass order octets (entry n (Align 4)) p in
      let behind : Progress = pass order octets (entry n (Offset true 0)) gap in
      let c : ℕ = number_in order octets (taken order octets (entry n (Actual true 0 max 0)) behind) in
      let counted : Progress = pass order octets (entry n (Actual true 0 max (c - 1 + 1))) behind in
      let os : List ℕ = text_in order octets (c - 1) (taken order octets (entry n (Text (replicate (c - 1) 0))) counted) in
      record { tree = node (tree.Text max os) none; progress = pass order octets (entry n (Text os)) counted; names = s }

  -- a union: its tag, and the selected arm
  abbrev pub read_union : (ℕ → ℕ → Progress → Names → Read) → Option TypeDef → ℕ → Primitive → Option (List ℤ) → List Arm → Option Arm → Progress
      → Names → Read
  read_union read d n prim values arms default p s =
      let gap : Progress = pass order octets (entry n (Align (width prim))) p in
      let z : ℤ = value_in order octets prim (taken order octets (entry n (Tag prim values arms default (pos 0))) gap) in
      read_children read d n (tree.Union z) (child_types d (tree.Union z) none) (pass order octets (entry n (Tag prim values arms default z)) gap) s

  abbrev pub read_tagged : (ℕ → ℕ → Progress → Names → Read) → Option TypeDef → Option TypeDef → ℕ → List Arm → Option Arm → Progress → Names → Read
  read_tagged read d (Some (def.Prim prim)) n arms default p s = read_union read d n prim None arms default p s
  read_tagged read d (Some (def.Enum values)) n arms default p s = read_union read d n Short (Some values) arms default p s
  read_tagged read d _ n arms default p s = record { tree = unread; progress = p; names = s }

  abbrev pub read_pointer : Class → ℕ → ℕ → Progress → Names → Read
  read_pointer k to n p s =
      let gap : Progress = pass order octets (entry n (Align 4)) p in
      let os : Option (List ℕ) = taken order octets (entry n (Number k to None)) gap in
      let it : Named = named k to os (number_in order octets os) s in
      record { tree = node (tree.Ptr it.cell) none; progress = pass order octets (entry n (Number k to it.cell)) gap; names = it.names }

  abbrev pub read_context : ℕ → Progress → Names → Read
  read_context n p s =
      let gap : Progress = pass order octets (entry n (Align 4)) p in
      let os : Option (List ℕ) = taken order octets (entry n (Context 0 [])) gap in
      let a : ℕ = attributes_in order octets os in
      let id : List ℕ = identifier_in order octets os in
      record { tree = node (tree.Context a id) none; progress = pass order octets (entry n (Context a id)) gap; names = s }

  -- a value of a type, by the readers of its children, where m is the maximum count that is before the whole value
  abbrev pub read_by : (ℕ → ℕ → Progress → Names → Read) → ℕ → ℕ → Option TypeDef → ℕ → Progress → Names → Read
  read_by read m t (Some (def.Prim prim)) n p s = read_number n prim None p s
  read_by read m t (Some (def.Enum values)) n p s = read_number n Short (Some values) p s
  read_by read m t (Some (def.Struct members)) n p s =
      read_children read (Some (def.Struct members)) n tree.Rec (map (λ f. f.of.0) members)
      (pass order octets (entry n (Align (align_of table t))) p) s
  read_by read m t (Some (def.Array elem bound varying)) n p s =
      read_array read (Some (def.Array elem bound varying)) varying (bound_or bound m) elem.0 n p s
  read_by read m t (Some (def.Text elem bound)) n p s = read_text (bound_or bound m) n p s
  read_by read m t (Some (def.Union tag encapsulated arms default)) n p s =
      read_tagged read (Some (def.Union tag encapsulated arms default)) (type_at table tag.0) n arms default p s
  read_by read m t (Some (def.Pointer class to)) n p s = read_pointer class to.0 n p s
  read_by read m t (Some def.Context) n p s = read_context n p s
  read_by read m t _ n p s = record { tree = unread; progress = p; names = s }

  -- types nest at most so deep
  abbrev pub read_in_place : ℕ → ℕ → ℕ → ℕ → Progress → Names → Read
  read_in_place zero m t n p s = record { tree = unread; progress = p; names = s }
  read_in_place (suc depth) m t n p s = read_by (read_in_place depth m) m t (type_at table t) n p s

  abbrev pub read_hoisted : Bool → ℕ → Progress → Names → Read
  read_hoisted false t p s = read_in_place 32 0 t 0 p s
  read_hoisted true t p s =
      let gap : Progress = pass order octets (entry 0 (Align 4)) p in
      let m : ℕ = number_in order octets (taken order octets (entry 0 (Max 0)) gap) in
      read_in_place 32 m t 0 (pass order octets (entry 0 (Max m)) gap) s

  -- a whole value, its maximum count first where its type hoists one; where reading has stopped, unread
  abbrev pub read_whole : ℕ → Progress → Names → Read
  read_whole t p s = read_if (is_stopped p.stop) (read_hoisted (hoists table t) t) p s
