-- What a decoder keeps of a stream between the values of its homes, and what it means to the plain reader.
-- `w` is a setting, `fetched` are the octets that were fetched, `noted` the items that were noted, `direct` is how many roots that are reference
-- pointers were read, `b` is what is kept, `s` the state of the reader, `seen` are the entries that it passed, `ps` the pointers whose referents are
-- pending, `n` is how many roots that are no pipes are still to be read, `h` is a home, `c` a cell's number.
use Rattle.std.specs.Prelude.{◌≡◌, ◌≤◌, ℕ, suc, zero, List, [], ◌∷◌, ◌++◌, length, map, filter, take, Option, Some, None}
use Rattle.std.specs.List.{slice_get}
use Rattle.nd_base.specs.declared.octets.Order.{Order}
use Rattle.nd_types.specs.Number.{AreOctets}
use Rattle.nd_value.specs.declared.item.Home.{Home}
use Rattle.nd_value.specs.declared.item.Home.TheVariants as home
use Rattle.nd_value.specs.declared.item.Item.{Item}
use Rattle.nd_value.specs.declared.value.Graph.{Graph}
use Rattle.nd_value.specs.Seen.{cell_number}
use Rattle.nd_value.specs.Tree as tree
use Rattle.nd_value.specs.Tree.{Tree, node, none, more, flat}
use Rattle.nd_types.specs.Table.{type_at}
use Rattle.nd_value.specs.Setting.{Setting, root_list, cell_home, cell_at}
use Rattle.nd_value.specs.Deferral.{Pending, due_referent, due_roots, IsPlaced}
use Rattle.nd_grammar.specs.Entry.{EntryAt}
use Rattle.nd_grammar.specs.declared.reason.Reason.TheVariants as reason
use Rattle.nd_grammar.specs.LegalSide.{IsLegalSide}
use Rattle.nd_grammar.specs.Reader.{Names, Read, read_whole}
use Rattle.nd_grammar.specs.StreamReader.{Reading, graph_of}
use Rattle.nd_grammar.specs.ReaderState.{State as IsReading}
use Rattle.ndr_refs.specs.declared.referents.Known.{Known}
use Rattle.ndr_decoder_laws.specs.reader.Around.{going, stopped}
use Rattle.ndr_decoder_laws.specs.declared.first.First.{First}
use Rattle.ndr_decoder_laws.specs.declared.first.First.TheVariants as first
use Rattle.ndr_decoder_laws.specs.declared.frame.Frame.TheVariants as frame
use Rattle.ndr_decoder_laws.specs.steps.Steps.{State, Owed, begun}
use Rattle.ndr_decoder_laws.specs.steps.Good.{Told, owed, Kept as IsKept}
use Rattle.nd_grammar.specs.decoded.Needed.{IsNeeded}
use Rattle.nd_grammar.specs.decoded.Verdict.{is_direct}
use Rattle.ndr_decoder_laws.specs.worklist.Reached.{Reached}
use Rattle.ndr_decoder_laws.specs.declared.kept.Kept.{Kept}
use Rattle.ndr_decoder_laws.specs.declared.kept.KeptRoot.{KeptRoot}

-- ## What is kept

pub record Between : Type 0 where
  -- the place in the stream
  pub at : ℕ
  -- the pending referents, from the next on
  pub pending : List Owed
  -- the types of all cells, and the numbers of full pointers
  pub cells : List ℕ
  pub numbers : List (ℕ × Known)
  -- what is kept of the roots that were read, and of the cells, by their numbers less one
  pub roots : List KeptRoot
  pub read : List (Option Kept)
  -- the graph so far, in which what was not read is unread
  pub graph : Graph

-- nothing is kept at the beginning of a stream
pub record Begins (b : Between) : Type 0 where
  pub at : b.at ≡ 0
  pub pending : b.pending ≡ []
  pub cells : b.cells ≡ []
  pub numbers : b.numbers ≡ []
  pub roots : b.roots ≡ []
  pub read : b.read ≡ []
  pub graph : b.graph ≡ record { roots = []; cells = [] }

-- without the next of the pending referents
abbrev pub others_of : List Owed → List Owed
others_of [] = []
others_of (o ∷ os) = os

abbrev pub taken : Between → Between
taken b = record { at = b.at; pending = others_of b.pending; cells = b.cells; numbers = b.numbers; roots = b.roots; read = b.read; graph = b.graph }

-- of a value its first node is kept, as the agreements see it, with the places where they find what they are about
abbrev pub IsKeptOf : List EntryAt → Home → Tree → Kept → Type 0
IsKeptOf seen h v k = IsKept h seen k.max_at (flat (more v none)) 0 k.first

-- the cell that a pointer names
abbrev pub pointer_cell : Tree → Option ℕ
pointer_cell (node (tree.Ptr c) ks) = c
pointer_cell v = None

-- of roots, from the i-th on, their own values and the cells that they name
abbrev pub AreKept : List EntryAt → ℕ → List Tree → List KeptRoot → Type 0
AreKept seen i [] [] = Unit {0}
AreKept seen i (v ∷ vs) (k ∷ ks) = IsKeptOf seen (home.Root i) v k.own × (cell_number k.cell ≡ pointer_cell v) × AreKept seen (suc i) vs ks
AreKept seen i _ _ = ⊥

-- what is kept of a cell, if it was read
abbrev pub or_none : Option (Option Kept) → Option Kept
or_none None = None
or_none (Some k) = k

abbrev pub kept_at : List (Option Kept) → ℕ → Option Kept
kept_at read zero = None
kept_at read (suc i) = or_none (slice_get read i)

-- A home's value begins at this run, with cells of these types: nothing of it was read.
pub record Opens (run : ℕ) (b : Between) (types : List ℕ) (x : State) : Type 0 where
  pub pc : x.pc ≡ run
  pub phase : x.phase ≡ begun
  pub at : x.at ≡ b.at
  pub max : x.max ≡ 0
  pub max_at : x.max_at ≡ None
  pub top : x.top ≡ frame.Home
  pub stack : x.stack ≡ []
  pub nodes : x.nodes ≡ []
  pub members : x.members ≡ []
  pub firsts : x.firsts ≡ []
  pub fresh : x.fresh ≡ []
  pub cells : x.cells ≡ types
  pub numbers : x.numbers ≡ b.numbers

-- the cell that a home names that is a pointer: its own pointer is the first of those that it makes due
abbrev pub named_by : First → List Owed → Option ℕ
named_by first.Pointer (o ∷ os) = o.cell
named_by x os = None

-- what is kept of the home whose value ends at a state
pub record IsKeptHome (x : State) (k : Kept) : Type 0 where
  pub first : x.own ≡ Some k.first
  pub max_at : k.max_at ≡ x.max_at

-- what is kept of a root, whose value ends at a state
pub record IsKeptRoot (x : State) (k : KeptRoot) : Type 0 where
  pub own : IsKeptHome x k.own
  pub cell : cell_number k.cell ≡ named_by k.own.first x.fresh

-- what is kept after a root that was read in its place, whose value ends at this state
abbrev pub root_read : Between → State → KeptRoot → Graph → Between
root_read b x k g =
    record { at = x.at; pending = x.fresh ++ b.pending; cells = x.cells; numbers = x.numbers; roots = b.roots ++ k ∷ []; read = b.read; graph = g }

-- the roots with a reference pointer more, whose referent is in its place
abbrev pub with_pointer : ℕ → List Tree → List Tree
with_pointer c roots = roots ++ node (tree.Ptr (Some c)) none ∷ []

-- The graph after a home was read: it has cells of these types. A root was added; or the value of a cell. What was read before is as it was.
pub record RootAdded (v : Tree) (types : List ℕ) (g g' : Graph) : Type 0 where
  pub roots : g'.roots ≡ g.roots ++ v ∷ []
  pub types_are : map (λ c. c.of) g'.cells ≡ types
  pub values : (c : ℕ) → cell_at g' c ≡ cell_at g c

pub record CellFilled (roots : List Tree) (c : ℕ) (v : Tree) (types : List ℕ) (g g' : Graph) : Type 0 where
  pub roots_are : g'.roots ≡ roots
  pub types_are : map (λ x. x.of) g'.cells ≡ types
  pub value : cell_at g' c ≡ v
  pub others : (d : ℕ) → (d ≡ c → ⊥) → cell_at g' d ≡ cell_at g d

-- what is kept of cells, with that of one more
pub record CellKept (c : ℕ) (k : Kept) (old new : List (Option Kept)) : Type 0 where
  pub is : kept_at new c ≡ Some k
  pub others : (d : ℕ) → (d ≡ c → ⊥) → kept_at new d ≡ kept_at old d

-- what is kept after a cell that was read, whose value ends at this state
abbrev pub cell_read : Between → State → List KeptRoot → List (Option Kept) → Graph → Between
cell_read b x roots read g =
    record { at = x.at; pending = x.fresh ++ b.pending; cells = x.cells; numbers = x.numbers; roots = roots; read = read; graph = g }

-- Each of these octets that a home took is needed: without the last one, and those after it, the reader finds the octets cut short where they end.
abbrev pub AreNeeded : (List ℕ → Read) → List ℕ → List ℕ → Type 0
AreNeeded target fetched added =
    (part : List ℕ) (last : ℕ) → added ≡ part ++ last ∷ []
    → (at : ℕ) × (seen : List EntryAt) × ((target (fetched ++ part)).progress ≡ stopped at seen (length (fetched ++ part), reason.Truncated))

-- what the reader gives of a home, by all octets, after these entries
abbrev pub home_target : Setting → Order → Between → List EntryAt → Home → ℕ → Names → List ℕ → Read
home_target w order b seen h t names octets = read_whole order octets w.table h t (going b.at seen) names

-- ## What it means

-- nothing of this home was read
abbrev pub IsUnread : Reading → Home → Type 0
IsUnread s (home.Root i) = length s.roots ≤ i
IsUnread s (home.Cell c) = ¬ IsPlaced s.done c.0

-- What is kept is right: of these roots, cells and names of the reader, of the entries that it passed, and of the pointers that are due.
pub record Keeps (w : Setting) (order : Order) (fetched : List ℕ) (noted : List Item) (direct : ℕ) (b : Between) (s : Reading) (seen : List EntryAt)
    (ps : List Pending) : Type 0 where
  pub at : length fetched ≡ b.at
  pub pending : b.pending ≡ map (owed w.table) ps
  pub told : (h : Home) → IsUnread s h → Told noted direct order fetched h seen s.names b.cells b.numbers None 0 []
  pub roots : AreKept seen 0 s.roots b.roots
  pub read : (c : ℕ) → IsPlaced s.done c
      → (k : Kept) × (kept_at b.read c ≡ Some k) × IsKeptOf seen (cell_home c) (cell_at (graph_of s.roots s.names) c) k
  pub not_read : (c : ℕ) → ¬ IsPlaced s.done c → kept_at b.read c ≡ None
  pub graph : b.graph ≡ graph_of s.roots s.names

-- And whatever octets follow, the plain reader comes to this state, in which these referents and so many roots are due.
pub record Agrees (w : Setting) (side : IsLegalSide w) (order : Order) (fetched : List ℕ) (noted : List Item) (direct : ℕ) (b : Between)
    (s : Reading) (seen : List EntryAt) (ps : List Pending) (n : ℕ) : Type 0 where
  pub octets : AreOctets fetched
  pub reached : Reached w order fetched s
  pub progress : s.progress ≡ going b.at seen
  pub due : s.due ≡ map due_referent ps ++ due_roots (length s.roots) n
  pub state : (later : List ℕ) (all : AreOctets (fetched ++ later))
      → (taken : List Pending) × IsReading w side order (fetched ++ later) all s taken ps n
  pub keeps : Keeps w order fetched noted direct b s seen ps
  -- so many of the roots that were read are reference pointers
  pub direct_are : direct ≡ length (filter (λ r. is_direct (type_at w.table r.of)) (take (length s.roots) (root_list w)))
  pub needed : IsNeeded w order fetched
