-- A graph as it is kept, and as contracts see it.
-- `os` are the octets of all texts, `ns` all nodes, `s` is a span, `c` a cell, `rs` are the spans of roots, `cs` those of cells.
use Rattle.std.specs.Prelude.{◌≡◌, ◌⊎◌, ℕ, ◌+◌, ◌-◌, ◌<◌, ◌≤◌, ◌^◌, suc, zero, slice_set, List, [], ◌∷◌, length, take, drop, map, slice_index_or}
use Rattle.std.specs.Prelude.{Option}
use Rattle.std.specs.Prelude.{Some, None}
use Rattle.std.specs.List.{AllByRecursion}
use Rattle.nd_types.specs.declared.interface.Interface.{Interface}
use Rattle.nd_types.specs.declared.types.Side.{Side}
use Rattle.nd_value.specs.declared.value.Graph.{Graph}
use Rattle.nd_value.specs.declared.item.Home.{Home}
use Rattle.nd_value.specs.declared.item.Home.TheVariants as home
use Rattle.nd_value.specs.Tree.{Tree, Flat, Referent}
use Rattle.nd_value.specs.Setting.{cell_home}
use Rattle.nd_flat.specs.declared.node.Node.{Node}
use Rattle.nd_flat.specs.declared.node.Node.TheVariants as kept
use Rattle.nd_flat.specs.declared.flat.Span.{Span}
use Rattle.nd_flat.specs.declared.flat.CellSpan.{CellSpan}
use Rattle.nd_flat.specs.declared.builder.OpenHome.{OpenHome}
use Rattle.nd_flat.specs.declared.builder.OpenHome.TheVariants as at
use Rattle.nd_flat.specs.Forest.{tree_in, IsWhole}
use Rattle.nd_flat.specs.FlatForm.{flats, HaveOctets}
use Rattle.nd_flat.specs.Building.{Building}

-- the nodes of a span
abbrev pub span_nodes : List Node → Span → List Node
span_nodes ns s = take s.len (drop s.from ns)

abbrev pub span_flats : List ℕ → List Node → Span → List Flat
span_flats os ns s = flats os (span_nodes ns s)

-- the tree of a span; unread where the span is empty
abbrev pub span_tree : List ℕ → List Node → Span → Tree
span_tree os ns s = tree_in (span_flats os ns s)

abbrev pub span_cell : List ℕ → List Node → CellSpan → Referent
span_cell os ns c = record { of = c.of.0; val = span_tree os ns c.span }

abbrev pub seen_graph : List ℕ → List Node → List Span → List CellSpan → Graph
seen_graph os ns rs cs = record { roots = map (span_tree os ns) rs; cells = map (span_cell os ns) cs }

-- a span lies within the nodes
abbrev pub IsWithin : List Node → Span → Type 0
IsWithin ns s = s.from + s.len ≤ length ns

-- a span holds the nodes of one tree, none missing
pub record IsHome (os : List ℕ) (ns : List Node) (s : Span) : Type 0 where
  pub within : IsWithin ns s
  pub whole : IsWhole (span_flats os ns s)

-- a graph that is kept: each root and each cell is whole
pub record IsKept (os : List ℕ) (ns : List Node) (rs : List Span) (cs : List CellSpan) : Type 0 where
  pub texts : HaveOctets os ns
  pub roots : AllByRecursion (IsHome os ns) rs
  pub cells : AllByRecursion (λ c. IsHome os ns c.span) cs

-- the home has a span
abbrev pub HasSpan : List Span → List CellSpan → Home → Type 0
HasSpan rs cs (home.Root i) = i < length rs
HasSpan rs cs (home.Cell c) = (0 < c.0) × (c.0 ≤ length cs)

abbrev pub no_span : Span
no_span = record { from = 0; len = 0 }

abbrev pub no_cell : CellSpan
no_cell = record { of = record { 0 = 0 }; span = no_span }

abbrev pub chosen_span : List Span → List CellSpan → Home → Span
chosen_span rs cs (home.Root i) = slice_index_or rs i no_span
chosen_span rs cs (home.Cell c) = (slice_index_or cs (c.0 - 1) no_cell).span

-- a span is empty, or holds the nodes of one tree, and ends before a place
pub record IsSound (os : List ℕ) (ns : List Node) (to : ℕ) (s : Span) : Type 0 where
  pub within : s.from + s.len ≤ to
  pub sound : (s.len ≡ 0) ⊎ IsWhole (span_flats os ns s)

-- the home that is open is there
abbrev pub IsPlace : List Span → List CellSpan → OpenHome → Type 0
IsPlace rs cs at.NoHome = Unit {0}
IsPlace rs cs (at.Root i) = i < length rs
IsPlace rs cs (at.Cell i) = i < length cs

-- the spans of roots and of cells with that of the home that was open
abbrev pub closed_roots : OpenHome → Span → List Span → List Span
closed_roots (at.Root i) s rs = slice_set rs i s
closed_roots _ s rs = rs

abbrev pub set_span : ℕ → Span → List CellSpan → List CellSpan
set_span i s [] = []
set_span zero s (c ∷ cs) = record { of = c.of; span = s } ∷ cs
set_span (suc i) s (c ∷ cs) = c ∷ set_span i s cs

abbrev pub closed_cells : OpenHome → Span → List CellSpan → List CellSpan
closed_cells (at.Cell i) s cs = set_span i s cs
closed_cells _ s cs = cs

abbrev pub home_of : OpenHome → Option Home
home_of at.NoHome = None
home_of (at.Root i) = Some (home.Root i)
home_of (at.Cell i) = Some (cell_home (suc i))

abbrev pub seen_builder : List ℕ → List Node → ℕ → List Span → List CellSpan → OpenHome → ℕ → Side → Interface → Option Graph → Building
seen_builder os ns from rs cs a op side i given = record {
  graph = seen_graph os ns rs cs;
  home = home_of a;
  nodes = flats os (drop from ns);
  op = op;
  side = side;
  interface = i;
  given = given;
}

pub record IsBuilt (os : List ℕ) (ns : List Node) (from : ℕ) (rs : List Span) (cs : List CellSpan) (a : OpenHome) : Type 0 where
  pub texts : HaveOctets os ns
  pub start : from ≤ length ns
  pub roots : AllByRecursion (IsSound os ns from) rs
  pub cells : AllByRecursion (λ c. IsSound os ns from c.span) cs
  pub place : IsPlace rs cs a

-- the first node is a pipe that may have so many elements more
abbrev pub IsPipeNode : ℕ → Node → Type 0
IsPipeNode k (kept.Pipe n) = n + k < 2 ^ 32
IsPipeNode k _ = ⊥

abbrev pub IsPipeAt : ℕ → List Node → Type 0
IsPipeAt k [] = ⊥
IsPipeAt k (n ∷ ns) = IsPipeNode k n

abbrev pub raised_node : ℕ → Node → Node
raised_node k (kept.Pipe n) = kept.Pipe (n + k)
raised_node k n = n

-- the node at a place has so many elements more
abbrev pub raised_at : ℕ → ℕ → List Node → List Node
raised_at i k [] = []
raised_at zero k (n ∷ ns) = raised_node k n ∷ ns
raised_at (suc i) k (n ∷ ns) = n ∷ raised_at i k ns
