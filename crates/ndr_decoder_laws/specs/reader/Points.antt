-- The points within a home's value at which reading goes on, for every form of types; what is still to be read of the innermost value at each;
-- and the nodes and the pointers that were read by then.
use Rattle.std.specs.Prelude.{◌≡◌, ℕ, ◌+◌, zero, suc, ℤ, pos, true, false, List, [], ◌∷◌, ◌++◌, length, Option, Some, None}
use Rattle.nd_base.specs.declared.octets.Order.{Order}
use Rattle.nd_types.specs.declared.types.TypeDef.{TypeDef}
use Rattle.nd_types.specs.declared.types.TypeDef.TheVariants as def
use Rattle.nd_types.specs.declared.types.Arm.{Arm}
use Rattle.nd_types.specs.declared.types.Primitive.{Primitive}
use Rattle.nd_types.specs.declared.types.Primitive.TheVariants.{Short}
use Rattle.nd_types.specs.Table.{Table, width, selected}
use Rattle.nd_value.specs.declared.item.Home.{Home}
use Rattle.nd_value.specs.Agreement.{Agreement}
use Rattle.nd_value.specs.Deferral.{Pending}
use Rattle.nd_value.specs.Tree.{Tree, none, more, Flat, flat}
use Rattle.nd_grammar.specs.Entry.{Entry}
use Rattle.nd_grammar.specs.Reader.{Progress, Names, Read, read_in_place, read_hoisted}
use Rattle.nd_grammar.specs.Refusal.{is_selected}
use Rattle.ndr_decoder_laws.specs.reader.Halves.{after_gap, array_after_offset, text_after_offset, text_after_count, union_tagged, hoisted_after}
use Rattle.ndr_decoder_laws.specs.reader.Around.{Around, continue, tried, nodes_around, nodes_between, pointers, governed_pointers, pointers_around}
use Rattle.ndr_decoder_laws.specs.reader.Around.{Numbered, Tied}

-- a union's tag: the primitive that carries it, and its enumerators if it is enumerated
pub record TagForm : Type 0 where
  pub prim : Primitive
  pub values : Option (List ℤ)

-- what carries the tag of a union, by what its type is
abbrev pub IsTagForm : Option TypeDef → TagForm → Type 0
IsTagForm (Some (def.Prim p)) form = form ≡ record { prim = p; values = None }
IsTagForm (Some (def.Enum values)) form = form ≡ record { prim = Short; values = Some values }
IsTagForm _ form = ⊥

pub data Point : Type 0 where
  -- at the beginning of a home whose type hoists; after its gap; after its maximum count
  hoisting : (t : ℕ) → Point
  counting : (t : ℕ) → Point
  called : (t : ℕ) → Point
  -- before the gap of a value of this type, and after it
  due : (t : ℕ) → Point
  opened : (t : ℕ) (d : TypeDef) → Point
  -- in a varying array of such elements and of this maximum count, after its offset
  offset_read : (t : ℕ) (d : TypeDef) (max elem o : ℕ) → Point
  -- in a text of this maximum count, after its offset; and after its actual count, which is one more than c
  text_offset : (t max : ℕ) → Point
  text_counted : (t max c : ℕ) → Point
  -- in a union whose tag has this value: the octets of the tag were fetched, and its entry is not passed yet
  tagged : (t : ℕ) (d : TypeDef) (form : TagForm) (arms : List Arm) (default : Option Arm) (z : ℤ) → Point
  -- in this struct, between two members; and after all its members, where these agreements of members that are no pointers are left to be tried, and
  -- those of members that are pointers have joined their pending entries so far
  between : (f : Around) → Point
  checking : (f : Around) (so_far : List (List Agreement)) (tests : List Entry) → Point
  -- after this value of a type
  has : (t : ℕ) (v : Tree) → Point

-- the tag that the plain reader takes: 0 where no arm is selected, since it is refused then
abbrev pub tag_taken : List Arm → Option Arm → ℤ → ℤ
tag_taken arms default z = elim (is_selected (selected arms default z)) [ true ↦ z | false ↦ pos 0 ]

-- one less
abbrev pub below : ℕ → ℕ
below zero = zero
below (suc n) = n

module _ (order : Order) (octets : List ℕ) (table : Table) (h : Home) (m : ℕ) where
  -- What is read from a point on, up to the end of the innermost value: `depth` is how deep its type may nest, `n` the number of its first node.
  abbrev pub read_at : ℕ → Point → ℕ → Progress → Names → Read
  read_at depth (hoisting t) n p s = read_hoisted order octets table h true t p s
  read_at depth (counting t) n p s = hoisted_after order octets table h t p s
  read_at depth (called t) n p s = read_in_place order octets table h depth m t n p s
  read_at depth (due t) n p s = read_in_place order octets table h depth m t n p s
  read_at depth (opened t d) n p s = after_gap order octets table h (read_in_place order octets table h (below depth) m) m t (Some d) n p s
  read_at depth (offset_read t d max elem o) n p s =
      array_after_offset order octets table h (read_in_place order octets table h (below depth) m) (Some d) max elem n o p s
  read_at depth (text_offset t max) n p s = text_after_offset order octets table h max n p s
  read_at depth (text_counted t max c) n p s = text_after_count order octets table h max c n p s
  read_at depth (tagged t d form arms default z) n p s =
      union_tagged order octets table h (read_in_place order octets table h (below depth) m) (Some d) n form.prim form.values arms default
      (tag_taken arms default z) p s
  read_at depth (between f) n p s = continue order octets table h m (below depth) f p s
  read_at depth (checking f so_far tests) n p s = tried order octets table h f f.done tests p s
  read_at depth (has t v) n p s = record { tree = v; progress = p; names = s }

-- the type of the value that is being read
abbrev pub type_of : Point → ℕ
type_of (hoisting t) = t
type_of (counting t) = t
type_of (called t) = t
type_of (due t) = t
type_of (opened t d) = t
type_of (offset_read t d max elem o) = t
type_of (text_offset t max) = t
type_of (text_counted t max c) = t
type_of (tagged t d form arms default z) = t
type_of (between f) = f.typed
type_of (checking f so_far tests) = f.typed
type_of (has t v) = t

abbrev pub TiedAt : ℕ → Point → List Around → Type 0
TiedAt own point fs = Tied own (type_of point) fs

-- the octets that were fetched and are not passed yet: those of a union's tag
abbrev pub held : Point → ℕ
held (tagged t d form arms default z) = width form.prim
held _ = 0

-- the nodes that were read by then
abbrev pub nodes_at : Point → List Around → List Flat
nodes_at (between f) fs = nodes_between f fs
nodes_at (checking f so_far tests) fs = nodes_between f fs
nodes_at (has t v) fs = nodes_around fs ++ flat (more v none)
nodes_at _ fs = nodes_around fs

-- the pointers that were read by then, in their order
abbrev pub pointers_at : Table → Home → Point → List Around → List Pending
pointers_at table h (between f) fs = pointers_around table h (f ∷ fs)
pointers_at table h (checking f so_far tests) fs = pointers_around table h fs ++ governed_pointers table h f.before so_far (f.node + 1) f.done
pointers_at table h (has t v) fs = pointers_around table h fs ++ pointers table h (t ∷ []) (length (nodes_around fs)) (more v none)
pointers_at table h _ fs = pointers_around table h fs

-- nodes are numbered as they come
abbrev pub NumberedAt : Point → List Around → Type 0
NumberedAt (between f) fs = (f.node ≡ length (nodes_around fs)) × (f.next ≡ length (nodes_between f fs)) × Numbered fs
NumberedAt (checking f so_far tests) fs = (f.node ≡ length (nodes_around fs)) × (f.left ≡ []) × Numbered fs
NumberedAt _ fs = Numbered fs
