-- A stream that is read in parts: its head, which is what comes before the pipes, and then its pipes chunk by chunk.
-- `w` is a setting, `g` a graph, `s` a spot, `p` a chunk as it was read, `r` the number of a root, `t` a type's number, `v` a value, `k` a count.
use Rattle.std.specs.Prelude.{◌≡◌, ℕ, ◌+◌, ◌<◌, ◌≤◌, ◌^◌, true, List, [], ◌∷◌, ◌++◌, length, take, drop, flat_map, replicate, Option, Some, None}
use Rattle.std.specs.List.{AllByRecursion, slice_get, list_all}
use Rattle.nd_base.specs.declared.octets.Order.{Order}
use Rattle.nd_base.specs.declared.TheConstants.{STREAM_LIMIT}
use Rattle.nd_types.specs.declared.types.TypeDef.{TypeDef}
use Rattle.nd_types.specs.declared.types.TypeDef.TheVariants as def
use Rattle.nd_types.specs.Table.{Table, type_at}
use Rattle.nd_value.specs.declared.value.Graph.{Graph}
use Rattle.nd_value.specs.declared.item.Home.TheVariants as home
use Rattle.nd_value.specs.declared.item.Item.{Item}
use Rattle.nd_value.specs.Tree as tree
use Rattle.nd_value.specs.Tree.{Tree, node, none, node_count, trees}
use Rattle.nd_value.specs.Setting.{Setting, root_list}
use Rattle.nd_value.specs.Deferral.{Step, Deferral, due_roots, before_pipes, root_type}
use Rattle.nd_value.specs.Conforms.{AgreesAt, Conforms}
use Rattle.nd_value.specs.Misfit.{misfit_of, is_partial_node, has_machine_values}
use Rattle.nd_value.specs.Nodes.{home_nodes}
use Rattle.nd_grammar.specs.declared.reason.Reason.{Reason}
use Rattle.nd_grammar.specs.Refusal.{Bad, Accepts, refusal}
use Rattle.nd_grammar.specs.Entry.{Entry, EntryAt, end_to_end, end_of, full_cells}
use Rattle.nd_grammar.specs.Items.{items}
use Rattle.nd_grammar.specs.Stream.{IsRendered, IsNumbering, head_entries, chunk_entries}

-- ## The head

-- The octets are the head of a stream of the graph: the roots that are no pipes with their referents, and the agreements of the parameters, end to
-- end over exactly these octets.
pub record IsHead (w : Setting) (order : Order) (octets : List ℕ) (g : Graph) : Type 0 where
  pub steps : List Step
  pub deferral : Deferral w g [] (due_roots 0 (before_pipes (root_list w))) steps
  pub numbering : ℕ → ℕ
  pub is_numbering : IsNumbering numbering (full_cells (head_entries w g steps))
  pub rendered : AllByRecursion (IsRendered order numbering octets) (end_to_end 0 (head_entries w g steps))
  pub whole : end_of 0 (head_entries w g steps) ≡ length octets
  pub within : length octets ≤ STREAM_LIMIT

-- a pipe without elements
abbrev pub empty_pipe : Tree
empty_pipe = node tree.Pipe none

-- the graph has no elements of pipes: its roots from the first pipe on are pipes without elements
abbrev pub HasEmptyPipes : Setting → Graph → Type 0
HasEmptyPipes w g = AllByRecursion (λ v. v ≡ empty_pipe) (drop (before_pipes (root_list w)) g.roots)

-- The octets are refused in the head: the entry that they refuse comes before the pipes.
pub record BadHead (w : Setting) (order : Order) (octets : List ℕ) (place : ℕ) (why : Reason) : Type 0 where
  pub bad : Bad w order octets place why
  pub in_head : length bad.earlier < length (head_entries w bad.partial bad.stream.steps)

-- ## Chunks

-- How far the pipes of a stream are read: the place, the root whose pipe is read, and the number of its next node.
pub record Spot : Type 0 where
  pub place : ℕ
  pub root : ℕ
  pub node : ℕ

-- the spot after the head
abbrev pub first_spot : Setting → List ℕ → Spot
first_spot w octets = record { place = length octets; root = before_pipes (root_list w); node = 1 }

-- a chunk as it was read: its octets and its elements; without elements it is the end of its pipe
pub record Part : Type 0 where
  pub octets : List ℕ
  pub elements : List Tree

-- the spot after a chunk of so many octets and of these elements
abbrev pub spot_after : Spot → ℕ → List Tree → Spot
spot_after s n [] = record { place = s.place + n; root = s.root + 1; node = 1 }
spot_after s n (v ∷ vs) = record { place = s.place + n; root = s.root; node = s.node + node_count (trees (v ∷ vs)) }

abbrev pub after : Spot → Part → Spot
after s p = spot_after s (length p.octets) p.elements

-- the type of the elements of a pipe
abbrev pub elem_by : Option TypeDef → ℕ
elem_by (Some (def.Pipe elem)) = elem.0
elem_by _ = 0

-- the type of the elements of the pipe that a root is
abbrev pub elem_at : Setting → ℕ → ℕ
elem_at w r = elem_by (type_at w.table (root_type (slice_get (root_list w) r)))

-- the entries of a chunk at a spot: the gap, its count, and its elements
abbrev pub part_entries : Setting → Spot → ℕ → List Tree → List Entry
part_entries w s k vs = chunk_entries w.table (home.Root s.root) (elem_at w s.root) s.node k (trees vs)

-- Octets spell entries from a place on, end to end over exactly these octets. Whatever octets come before the place, and however full pointers are
-- numbered: there are none among the entries.
pub record AreSpelt (order : Order) (place : ℕ) (octets : List ℕ) (entries : List Entry) : Type 0 where
  pub rendered : (before : List ℕ) (numbering : ℕ → ℕ) → length before ≡ place
      → AllByRecursion (IsRendered order numbering (before ++ octets)) (end_to_end place entries)
  pub whole : end_of place entries ≡ place + length octets
  pub within : place + length octets ≤ STREAM_LIMIT

-- a graph without cells: the elements of pipes have no pointers
abbrev pub no_graph : Graph
no_graph = record { roots = []; cells = [] }

-- An element of a pipe conforms: no node of it has a misfit by itself, and every agreement inside it holds.
pub record IsElement (table : Table) (t : ℕ) (v : Tree) : Type 0 where
  pub machine_values : list_all (λ x. has_machine_values x.label) (home_nodes table t v) ≡ true
  pub local : AllByRecursion (λ x. misfit_of table no_graph x ≡ None) (home_nodes table t v)
  pub agreed : AllByRecursion (AgreesAt no_graph) (home_nodes table t v)

-- A chunk was read at a spot: these octets are its count and its elements, which conform. The nodes of its pipe are numbered in 32 bits.
pub record IsPart (w : Setting) (order : Order) (s : Spot) (p : Part) : Type 0 where
  pub pipe_left : s.root < length (root_list w)
  pub spelt : AreSpelt order s.place p.octets (part_entries w s (length p.elements) p.elements)
  pub elements : AllByRecursion (IsElement w.table (elem_at w s.root)) p.elements
  pub few_nodes : (after s p).node < 2 ^ 32

-- chunks were read one after the other, from a spot on
abbrev pub AreParts : Setting → Order → Spot → List Part → Type 0
AreParts w order s [] = Unit {0}
AreParts w order s (p ∷ ps) = IsPart w order s p × AreParts w order (after s p) ps

-- the spot after them
abbrev pub after_all : Spot → List Part → Spot
after_all s [] = s
after_all s (p ∷ ps) = after_all (after s p) ps

-- their octets
abbrev pub octets_of : List Part → List ℕ
octets_of ps = flat_map (λ p. p.octets) ps

-- the items of a chunk that was read at a spot, in these octets of the stream
abbrev pub part_items : Setting → Order → List ℕ → Spot → List Tree → List Item
part_items w order octets s vs = items order octets (end_to_end s.place (part_entries w s (length vs) vs))

-- Octets are read through the first entries of a chunk, which begins at a spot: they spell each of them and refuse none. Each of its elements may be
-- unread in part.
pub record IsPartThrough (w : Setting) (order : Order) (s : Spot) (octets : List ℕ) (earlier : List EntryAt) : Type 0 where
  pub pipe_left : s.root < length (root_list w)
  pub elements : List Tree
  pub partial : AllByRecursion (λ v. list_all (is_partial_node w.table no_graph) (home_nodes w.table (elem_at w s.root) v) ≡ true) elements
  pub machine_values : AllByRecursion (λ v. list_all (λ x. has_machine_values x.label) (home_nodes w.table (elem_at w s.root) v) ≡ true) elements
  pub later : List EntryAt
  pub split : end_to_end s.place (part_entries w s (length elements) elements) ≡ earlier ++ later
  pub rendered : (before : List ℕ) (numbering : ℕ → ℕ) → length before ≡ s.place
      → AllByRecursion (IsRendered order numbering (before ++ octets)) earlier
  pub accepted : (before : List ℕ) → length before ≡ s.place → Accepts order (before ++ octets) [] earlier

-- Octets are refused in a chunk: they are read through its first entries, and refuse the next.
pub record BadPart (w : Setting) (order : Order) (s : Spot) (octets : List ℕ) (place : ℕ) (why : Reason) : Type 0 where
  pub earlier : List EntryAt
  pub through : IsPartThrough w order s octets earlier
  pub here : EntryAt
  pub others : List EntryAt
  pub next : through.later ≡ here ∷ others
  pub refused : (before : List ℕ) → length before ≡ s.place → refusal order (before ++ octets) earlier here ≡ Some (place, why)

-- ## The stream that they make

-- the pipes that chunks make, the first of which has these elements already
abbrev pub pipes_by : (List Tree → List Tree) → List Tree → List Tree → List Tree
pipes_by others vs [] = node tree.Pipe (trees vs) ∷ others []
pipes_by others vs (u ∷ us) = others (vs ++ u ∷ us)

abbrev pub pipes_of : List Tree → List Part → List Tree
pipes_of vs [] = []
pipes_of vs (p ∷ ps) = pipes_by (λ us. pipes_of us ps) vs p.elements

-- a graph with these pipes in place of its own
abbrev pub with_pipes : Setting → Graph → List Tree → Graph
with_pipes w g pipes = record { roots = take (before_pipes (root_list w)) g.roots ++ pipes; cells = g.cells }

-- a graph with every pipe empty
abbrev pub without_pipes : Setting → Graph → Graph
without_pipes w g = with_pipes w g (replicate (length (drop (before_pipes (root_list w)) g.roots)) empty_pipe)

-- The head of a stream was read, with a graph that conforms and has empty pipes, and then these chunks.
pub record AreReadTo (w : Setting) (order : Order) (head : List ℕ) (g : Graph) (parts : List Part) : Type 0 where
  pub is_head : IsHead w order head g
  pub empty : HasEmptyPipes w g
  pub conforms : Conforms w g
  pub are_parts : AreParts w order (first_spot w head) parts
