-- What a walk over the nodes of a home comes to.
-- `k` are the octets with the partial graph in which they are refused, `h` is a home, `n` a node's number, `t` a type's number, `l` a label,
-- `ks` are its children, `left` the values that are left, `types` and `paths` are those of these values, `places` says which members they are,
-- `max` is the maximum count in front.
use Rattle.std.specs.Prelude.{◌≡◌, ◌<◌, ◌≤◌, ◌+◌, ℕ, true, List, [], ◌∷◌, ◌++◌, length, reverse, Option, None, Some}
use Rattle.std.specs.List.{slice_get}
use Rattle.nd_types.specs.Layout.{hoists}
use Rattle.nd_types.specs.Table.{type_at, width}
use Rattle.nd_types.specs.declared.types.TypeDef.{TypeDef}
use Rattle.nd_types.specs.declared.types.TypeDef.TheVariants as def
use Rattle.nd_value.specs.declared.item.Home.{Home}
use Rattle.nd_value.specs.Misfit.{is_partial_node}
use Rattle.nd_value.specs.Nodes.{child_types}
use Rattle.nd_value.specs.Tree as tree
use Rattle.nd_value.specs.Tree.{Flat, Label, Trees, count, flat, more, node, node_count, none}
use Rattle.nd_value.specs.Seen.{cell_number}
use Rattle.nd_flat.specs.FlatForm.{armed_count}
use Rattle.nd_grammar.specs.Entry.{Entry, before_children, entries, own_max}
use Rattle.text_grammar.specs.Paths.{node_paths}
use Rattle.text_printer.specs.Walks.{Begins}
use Rattle.nd_value.specs.Deferral.{Placed_cells}
use Rattle.ndr_explain.specs.declared.levels.Levels.{Levels}
use Rattle.ndr_explain.specs.Cursors.{Place, level_types, paths_from, places_from, types_from}
use Rattle.ndr_explain.specs.Explained.{home_flats, home_paths, label_in, path_in}
use Rattle.ndr_trace_value.specs.Untested.{is_test, plain, untested}
use Rattle.ndr_trace_value.specs.declared.cells.Cells.{Cells}
use Rattle.ndr_trace_value.specs.declared.nodes.Walker.{Walker}
use Rattle.ndr_trace_value.specs.declared.progress.Progress.{Progress}
use Rattle.ndr_trace_value.specs.declared.progress.Spot.{Spot}
use Rattle.ndr_trace_value.specs.declared.shapes.Shape.{Shape}
use Rattle.ndr_trace_value.specs.declared.shapes.Shape.TheVariants as shape
use Rattle.ndr_trace_value.specs.Naming.{HasNamed, names_in}
use Rattle.ndr_trace_value.specs.Places.{ArePlaced, home_place}
use Rattle.ndr_trace_value.specs.Tracing.{IsSpot, IsTracing, Known}

-- ## Nodes

-- a node of a partial graph; its maximum count is the one in front of the home's value, if its type has one there
pub record IsOwn (k : Known) (max t : ℕ) (l : Label) (ks : Trees) : Type 0 where
  pub partial : is_partial_node k.setting.table k.graph (record { node = 0; of = t; agreements = []; label = l; kids = ks }) ≡ true
  pub max_is : hoists k.setting.table t ≡ true → own_max l max ≡ max

-- so are all nodes of these values
abbrev pub AreOwn : Known → ℕ → List ℕ → Trees → Type 0
AreOwn k max types none = Unit {0}
AreOwn k max [] (more v ts) = Unit {0}
AreOwn k max (t ∷ types) (more (node l ks) ts) =
    IsOwn k max t l ks × AreOwn k max (child_types (type_at k.setting.table t) l ks) ks × AreOwn k max types ts

-- Values of a home from node n on, of these types and with these paths; they are these members of structs.
pub record AreThere (k : Known) (h : Home) (max : ℕ) (types : List ℕ) (paths : List (List ℕ)) (places : List Place) (n : ℕ) (left : Trees)
    : Type 0 where
  pub begins : Begins k.setting.table types left
  pub all : count left ≡ length types
  pub own : AreOwn k max types left
  pub paths_are : (m : ℕ) → n ≤ m → m < n + node_count left
      → path_in (home_paths k.setting k.graph h) m ≡ path_in (node_paths k.setting.table types paths n left) m
  pub placed : ArePlaced (home_place k.setting k.graph h) k.setting.table types places n left
  pub flats_are : (i : ℕ) → i < node_count left → slice_get (home_flats k.graph h) (n + i) ≡ slice_get (flat left) i

-- the entries of values of a home
abbrev pub values_due : Known → Home → List ℕ → ℕ → Trees → List Entry
values_due k h types n left = plain k.setting.table h types n left

-- ## One node

-- its own entries, which come before those of its children
abbrev pub own_due : Known → Home → ℕ → ℕ → Label → Trees → List Entry
own_due k h n t l ks = untested (entries h n (before_children k.setting.table t (type_at k.setting.table t) l ks))

-- a node where it is
pub record IsNode (k : Known) (s : Spot) (max t n : ℕ) (l : Label) (ks : Trees) : Type 0 where
  pub spot : IsSpot k s n
  pub label_is : label_in (home_flats k.graph s.home) n ≡ Some l
  pub own : IsOwn k max t l ks

-- Where an agreement is sought, items are left.
abbrev pub IsReady : Known → Progress → Type 0
IsReady k p = is_test k.here.entry.kind ≡ true → p.next < length k.log

-- a shape as a node with the number of its children
abbrev pub flat_shape : Shape → Flat
flat_shape (shape.Num z) = (tree.Num z, 0)
flat_shape shape.Rec = (tree.Rec, 0)
flat_shape (shape.Arr max offset n) = (tree.Arr max offset, n)
flat_shape (shape.Union tag armed) = (tree.Union tag, armed_count armed)
flat_shape (shape.Ptr cell) = (tree.Ptr (cell_number cell), 0)
flat_shape shape.Leaf = (tree.Ptr None, 0)

-- What a node says, as far as a walk needs it: a text and a context handle have no children, as a null pointer has none, and the members of a struct
-- are known by its type.
abbrev pub IsSeen : Label → ℕ → Flat → Type 0
IsSeen (tree.Num z) c f = f ≡ (tree.Num z, 0)
IsSeen tree.Rec c f = f.0 ≡ tree.Rec
IsSeen (tree.Arr max offset) c f = f ≡ (tree.Arr max offset, c)
IsSeen (tree.Text max octets) c f = f ≡ (tree.Ptr None, 0)
IsSeen (tree.Union z) c f = f ≡ (tree.Union z, c)
IsSeen (tree.Ptr cell) c f = f ≡ (tree.Ptr cell, 0)
IsSeen (tree.Context attributes id) c f = f ≡ (tree.Ptr None, 0)
IsSeen _ c f = ⊥

-- each pointer that became pending has an item
abbrev pub HavePaid : Progress → Cells → Progress → Cells → Type 0
HavePaid p a p1 a1 = (p.next ≤ p1.next) × (length a1.pending.items + p.next ≤ length a.pending.items + p1.next)

abbrev pub IsPaid : Walker → Walker → Type 0
IsPaid before after = HavePaid before.progress before.cells after.progress after.cells

-- how many octets a tag of this type has
abbrev pub width_by : Option TypeDef → ℕ
width_by (Some (def.Prim p)) = width p
width_by _ = 2

-- ## A walk that goes on

-- The entries that were due are in part passed; the values from the node on at which levels are are due now.
pub record GoesOn (k : Known) (h : Home) (max : ℕ) (name : List ℕ) (due rest : List Entry) (names : Placed_cells) (before after : Walker) (s : Levels)
    : Type 0 where
  pub some : 0 < length (level_types s.top)
  pub node : ℕ
  pub left : Trees
  pub there : AreThere k h max (types_from s.top (reverse s.below.items)) (paths_from name s.top (reverse s.below.items))
      (places_from s.top (reverse s.below.items)) node left
  pub passed : List Entry
  pub split : due ≡ passed ++ values_due k h (types_from s.top (reverse s.below.items)) node left
  pub tracing : IsTracing k after.progress (values_due k h (types_from s.top (reverse s.below.items)) node left ++ rest)
  pub named : HasNamed k before.cells after.cells passed (names_in (values_due k h (types_from s.top (reverse s.below.items)) node left) ++ names)

-- the walk goes on from these levels, or all that was due is passed
abbrev pub ComesTo : Known → Home → ℕ → List ℕ → List Entry → List Entry → Placed_cells → Walker → Walker → Option Levels → Type 0
ComesTo k h max name due rest names before after None = IsTracing k after.progress rest × HasNamed k before.cells after.cells due names
ComesTo k h max name due rest names before after (Some s) = GoesOn k h max name due rest names before after s
