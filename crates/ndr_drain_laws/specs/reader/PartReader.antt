-- Reading one chunk of a pipe by itself: the plain reader of its gap, its count and its elements.
-- `w` is a setting, `s` the spot at which the chunk begins, `octets` are those of the stream, up to any place after the chunk, `g` those of the gap,
-- `os` those of the count, `k` is the count, `c` how many elements come after the first.
use Rattle.std.specs.Prelude.{◌≤◌, ◌<◌, ℕ, ◌+◌, ◌-◌, ◌*◌, zero, suc, pos, List, [], ◌∷◌, ◌++◌, length, map, replicate}
use Rattle.std.specs.List.{slice_get}
use Rattle.nd_base.specs.declared.octets.Order.{Order}
use Rattle.nd_base.specs.declared.TheConstants.{STREAM_LIMIT}
use Rattle.nd_types.specs.declared.types.TypeId.{TypeId}
use Rattle.nd_types.specs.Number.{unsigned}
use Rattle.nd_value.specs.declared.item.Home.{Home}
use Rattle.nd_value.specs.declared.item.Home.TheVariants as home
use Rattle.nd_value.specs.declared.item.Item.{Item}
use Rattle.nd_value.specs.declared.item.ItemKind.TheVariants as item
use Rattle.nd_value.specs.Deferral.{before_pipes, root_type}
use Rattle.nd_value.specs.Setting.{Setting, root_list}
use Rattle.nd_value.specs.Tree.{none}
use Rattle.nd_grammar.specs.Entry.{Entry, EntryAt, Kind, Align, Chunk, gap}
use Rattle.nd_grammar.specs.Reader.{Names, Progress, Read, ReadAll, number_in, pass, read_in_place, read_list, taken}
use Rattle.ndr_drain_laws.specs.parts.Parts.{Spot, elem_at}
use Rattle.ndr_decoder_laws.specs.reader.Around.{going}
use Rattle.ndr_decoder_laws.specs.steps.Chunks.{chunk_read}
use Rattle.ndr_decoder_laws.specs.steps.StepItems.{gap_items, item_here}

-- A pipe is left to be read at the spot, and each octet of the stream so far paid for 32 of its nodes at most.
pub record IsAtPipe (w : Setting) (s : Spot) : Type 0 where
  pub pipes : before_pipes (root_list w) ≤ s.root
  pub left : s.root < length (root_list w)
  pub one : 1 ≤ s.node
  pub few : s.node ≤ 32 * s.place + 1
  pub within : s.place ≤ STREAM_LIMIT

-- the type of a root
abbrev pub type_of_root : Setting → ℕ → ℕ
type_of_root w r = root_type (slice_get (root_list w) r)

abbrev pub pipe_home : Spot → Home
pipe_home s = home.Root s.root

-- an entry of the pipe as a whole
abbrev pub of_pipe : Spot → Kind → Entry
of_pipe s k = record { home = home.Root s.root; node = 0; kind = k }

-- elements of pipes have no pointers, so no cell is named
abbrev pub no_names : Names
no_names = record { cells = []; numbers = [] }

-- ## The reader

module _ (w : Setting) (order : Order) (octets : List ℕ) (s : Spot) where
  -- past the gap; the count; past it
  abbrev pub past_gap : Progress
  past_gap = pass order octets (of_pipe s (Align 4)) (going s.place [])

  abbrev pub count_of : ℕ
  count_of = number_in order octets (taken order octets (of_pipe s (Chunk 0)) past_gap)

  abbrev pub past_count : Progress
  past_count = pass order octets (of_pipe s (Chunk count_of)) past_gap

  -- the chunk: so many elements, whose nodes are numbered from 1
  abbrev pub read_part : ReadAll
  read_part =
      read_list w.table (read_in_place order octets w.table (home.Root s.root) 32 0) (replicate count_of (elem_at w s.root)) 1 past_count no_names

-- ## Numbers of nodes

-- a node of an element, after so many nodes of the chunks before; the pipe itself is node 0
abbrev pub after_nodes : ℕ → ℕ → ℕ
after_nodes n zero = zero
after_nodes n (suc k) = suc k + n

abbrev pub moved_item : ℕ → Item → Item
moved_item n x = record { at = x.at; len = x.len; kind = x.kind; home = x.home; node = after_nodes n x.node; value = x.value }

-- the items of a chunk that was read by itself are these in its pipe
abbrev pub moved_items : Spot → List Item → List Item
moved_items s xs = map (moved_item (s.node - 1)) xs

-- ## The octets of a chunk, and what is read of them

-- any octets may come before the place: these do
abbrev pub before_place : Spot → List ℕ
before_place s = replicate {A = ℕ} s.place 0

-- the place after the count
abbrev pub after_count : Spot → ℕ
after_count s = s.place + gap s.place 4 + 4

-- the entries of the gap and the count, at their places
abbrev pub gap_seen : Spot → List EntryAt
gap_seen s = record { at = s.place; entry = of_pipe s (Align 4) } ∷ []

abbrev pub header_seen : Spot → ℕ → List EntryAt
header_seen s k = gap_seen s ++ record { at = s.place + gap s.place 4; entry = of_pipe s (Chunk k) } ∷ []

-- their items
abbrev pub header_items : Order → Spot → List ℕ → List ℕ → List Item
header_items order s g os =
    gap_items (home.Root s.root) s.place g ++ item_here (home.Root s.root) (s.place + gap s.place 4) item.Chunk 4 (pos (unsigned order os)) 0 ∷ []

-- the octets up to the elements
abbrev pub to_elements : Spot → List ℕ → List ℕ → List ℕ
to_elements s g os = before_place s ++ (g ++ os)

-- what the plain reader gives for the elements, by all octets: the pipe with these alone
abbrev pub part_target : Setting → Order → Spot → TypeId → ℕ → List ℕ → Read
part_target w order s elem c = chunk_read order w.table (home.Root s.root) elem none (suc c) (going (after_count s) (header_seen s (suc c))) no_names
