-- How far the search for the homes of a graph has come.
-- `code` is a plan's code, `g` a graph, `k` the greatest count of a chunk, `n` the number of its cells, `c` a cell's number, `s` what is known so
-- far.
use Rattle.std.specs.Prelude.{◌≡◌, ℕ, ◌+◌, ◌^◌, ◌<◌, ◌≤◌, suc, Bool, true, false, List, [], ◌∷◌, ◌++◌, length, slice_index_or, reverse, replicate}
use Rattle.std.specs.Prelude.{Option, Some, None}
use Rattle.std.specs.List.{AllByRecursion}
use Rattle.nd_value.specs.declared.value.Graph.{Graph}
use Rattle.nd_value.specs.declared.item.Home.{Home}
use Rattle.nd_value.specs.Tree.{Tree, node, cell_in}
use Rattle.nd_value.specs.Canon.{has, canonical_number}
use Rattle.ndr_code.specs.declared.instr.Instr.{Instr}
use Rattle.ndr_code.specs.declared.instr.Instr.TheVariants as op
use Rattle.ndr_encoder_laws.specs.pieces.Pieces.{pieces_end, pieces_names}
use Rattle.ndr_encoder_output.specs.declared.count.Named.{Named}
use Rattle.ndr_encoder_output.specs.Counting.{names_of}
use Rattle.ndr_encoder_output.specs.Structs.{AreKnown}
use Rattle.ndr_encoder_laws.specs.turns.Turned.{Item, root_due, direct_due, Turned, cells_due, cells_of, names_of as run_names}
use Rattle.ndr_encoder_laws.specs.chosen.Written.{value_at}
use Rattle.ndr_encoder_value.specs.declared.turn.Turn.{Turn}
use Rattle.ndr_encoder_value.specs.Turns.{turn_pair, turn_pairs}
use Rattle.ndr_encoder_value.specs.Counted.{counted_turn, counted_turns, AreCells, IsCounted}
use Rattle.ndr_encode.specs.declared.search.Search.{Search}

-- the number that a cell would have next, after names
abbrev pub next_after : ℕ → List ℕ → List ℕ → ℕ
next_after n seen [] = n
next_after n seen (d ∷ ds) = elim (has seen d) [ true ↦ next_after n seen ds | false ↦ next_after (n + 1) (d ∷ seen) ds ]

-- cells of a graph with n cells
abbrev pub AreWithin : ℕ → List ℕ → Type 0
AreWithin n cs = AllByRecursion (λ c. (0 < c) × (c ≤ n)) cs

-- The numbers of cells by the cell, from 0, once these are named: `named` of them have one.
pub record IsNumbered (n : ℕ) (names numbers : List ℕ) (named : ℕ) : Type 0 where
  pub numbers_are : (c : ℕ) → slice_index_or numbers c 0 ≡ canonical_number names c
  pub next : named + 1 ≡ next_after 1 [] names
  pub within : AreWithin n names
  pub room : length numbers ≡ n + 1

-- how many cells have no mark
abbrev pub unmarked : List Bool → ℕ
unmarked [] = 0
unmarked (true ∷ bs) = unmarked bs
unmarked (false ∷ bs) = suc (unmarked bs)

-- what is pending without the cells before the first that has no mark
abbrev pub unplaced : List Bool → List (ℕ × ℕ) → List (ℕ × ℕ)
unplaced marks [] = []
unplaced marks (x ∷ xs) = elim (slice_index_or marks x.0 false) [ true ↦ unplaced marks xs | false ↦ x ∷ xs ]

-- what is pending, the next first
abbrev pub pending_names : List Named → List (ℕ × ℕ)
pending_names ds = names_of (reverse ds)

-- the homes before the pipes, and the pipes, each with the address of its run; and the cells that are named
pub record Stream : Type 0 where
  pub homes : List (Home × ℕ)
  pub pipes : List (Home × ℕ)
  pub names : List ℕ

-- all of them can be counted, and their pointers name what the order goes by
pub record IsSearchable (code : List Instr) (k : ℕ) (g : Graph) (x : Stream) : Type 0 where
  pub few_cells : length g.cells < 2 ^ 32
  pub few_roots : length g.roots < 2 ^ 32
  pub homes : AllByRecursion (IsCounted code k g) x.homes
  pub names : AllByRecursion (λ u. pieces_names (counted_turn code k g u) ≡ run_names code u.1 (value_at g u.0)) x.homes
  pub pipes : AllByRecursion (IsCounted code k g) x.pipes
  pub no_names : AllByRecursion (λ u. pieces_names (counted_turn code k g u) ≡ []) x.pipes

-- what is counted so far, and what is known of runs
pub record AreCounted (code : List Instr) (k : ℕ) (g : Graph) (left : ℕ) (s : Search) : Type 0 where
  pub at : s.count.at ≡ pieces_end 0 (counted_turns code k g (turn_pairs s.turns.items))
  pub few : length s.turns.items + unmarked s.placed.items + left ≤ length g.roots + length g.cells + 1
  pub room : length s.placed.items ≡ length g.cells + 1
  pub known : AreKnown code s.known

-- Some homes have had their turn, and the others have theirs by what is pending and then due.
pub record IsSearched (code : List Instr) (k : ℕ) (g : Graph) (x : Stream) (due : List Item) (s : Search) : Type 0 where
  pub rest : List (Home × ℕ)
  pub rest_names : List ℕ
  pub stands : List ℕ
  pub names : List ℕ
  pub turned : Turned code g stands (cells_due (pending_names s.count.names.items) ++ due) rest rest_names
  pub turns : turn_pairs s.turns.items ++ rest ≡ x.homes
  pub named : names ++ rest_names ≡ x.names
  pub numbers : IsNumbered (length g.cells) names s.numbers.items s.named
  pub marks : (c : ℕ) → slice_index_or s.placed.items c false ≡ has stands c
  pub pending : AreCells g (pending_names s.count.names.items)
  pub counted : AreCounted code k g (length due + length x.pipes) s

-- All homes before the pipes have had their turn, and some pipes.
pub record ArePipes (code : List Instr) (k : ℕ) (g : Graph) (x : Stream) (rest : List (Home × ℕ)) (s : Search) : Type 0 where
  pub turns : turn_pairs s.turns.items ++ rest ≡ x.homes ++ x.pipes
  pub numbers : IsNumbered (length g.cells) x.names s.numbers.items s.named
  pub pending : s.count.names.items ≡ []
  pub counted : AreCounted code k g (length rest) s

-- a home took its turn
pub record IsTaken (code : List Instr) (k : ℕ) (g : Graph) (turn : Turn) (old new : Search) : Type 0 where
  pub turns : new.turns.items ≡ old.turns.items ++ turn ∷ []
  pub placed : new.placed.items ≡ old.placed.items
  pub at : new.count.at ≡ pieces_end old.count.at (counted_turn code k g (turn_pair turn))
  pub known : AreKnown code new.known
  pub pending : pending_names new.count.names.items ≡ pieces_names (counted_turn code k g (turn_pair turn)) ++ pending_names old.count.names.items
  pub numbers : (names : List ℕ) → IsNumbered (length g.cells) names old.numbers.items old.named
      → IsNumbered (length g.cells) (names ++ cells_of (pieces_names (counted_turn code k g (turn_pair turn)))) new.numbers.items new.named

-- a home can take its turn
pub record CanTake (code : List Instr) (k : ℕ) (g : Graph) (turn : Turn) (s : Search) : Type 0 where
  pub few_cells : length g.cells < 2 ^ 32
  pub counted : IsCounted code k g (turn_pair turn)
  pub room : s.count.at + 2 ^ 67 < 2 ^ 128
  pub known : AreKnown code s.known
  pub names : List ℕ
  pub numbers : IsNumbered (length g.cells) names s.numbers.items s.named

-- nothing is known yet
pub record IsFresh (n : ℕ) (s : Search) : Type 0 where
  pub turns : s.turns.items ≡ []
  pub numbers : s.numbers.items ≡ replicate (n + 1) 0
  pub named : s.named ≡ 0
  pub placed : s.placed.items ≡ replicate (n + 1) false
  pub pending : s.count.names.items ≡ []
  pub at : s.count.at ≡ 0
  pub known : (code : List Instr) → AreKnown code s.known

-- a search for some stream has come so far, and some items are due
abbrev pub CanSearch : List Instr → ℕ → Graph → Search → Type 0
CanSearch code k g s = (x : Stream) × (due : List Item) × IsSearchable code k g x × IsSearched code k g x due s

-- whatever it was for, it has come further
abbrev pub StillSearched : List Instr → ℕ → Graph → Search → Search → Type 0
StillSearched code k g old new =
    (x : Stream) (due : List Item) → IsSearchable code k g x → IsSearched code k g x due old → IsSearched code k g x due new

-- the cell that a value names, if it is a pointer
abbrev pub first_cell : Tree → Option ℕ
first_cell (node l ks) = cell_in l

-- a root that is due, by the first instruction of its run
abbrev pub root_by : ℕ → Option Instr → List Item
root_by i (Some (op.Call run)) = root_due i run ∷ []
root_by i (Some (op.Direct to run)) = direct_due i run ∷ []
root_by i _ = []

-- its run by that instruction
abbrev pub called_run : Option Instr → Option ℕ
called_run (Some (op.Call run)) = Some run
called_run i = None

abbrev pub direct_run : Option Instr → Option ℕ
direct_run (Some (op.Direct to run)) = Some run
direct_run i = None

-- an item is next, and nothing is pending
pub record CanItem (code : List Instr) (k : ℕ) (g : Graph) (item : Item) (s : Search) : Type 0 where
  pub stream : Stream
  pub due : List Item
  pub searchable : IsSearchable code k g stream
  pub searched : IsSearched code k g stream (item ∷ due) s
  pub pending : s.count.names.items ≡ []

-- it took its turn
abbrev pub ItemTaken : List Instr → ℕ → Graph → Item → Search → Search → Type 0
ItemTaken code k g item old new =
    (x : Stream) (due : List Item) → IsSearchable code k g x → old.count.names.items ≡ [] → IsSearched code k g x (item ∷ due) old
    → IsSearched code k g x due new

-- a root is next, and nothing is pending
pub record CanRoot (code : List Instr) (k : ℕ) (g : Graph) (i : ℕ) (first : Option Instr) (s : Search) : Type 0 where
  pub stream : Stream
  pub due : List Item
  pub item : Item
  pub is_item : root_by i first ≡ item ∷ []
  pub searchable : IsSearchable code k g stream
  pub searched : IsSearched code k g stream (item ∷ due) s
  pub pending : s.count.names.items ≡ []

-- it took its turn
abbrev pub RootTaken : List Instr → ℕ → Graph → ℕ → Option Instr → Search → Search → Type 0
RootTaken code k g i first old new =
    (x : Stream) (due : List Item) (item : Item) → root_by i first ≡ item ∷ [] → IsSearchable code k g x → old.count.names.items ≡ []
    → IsSearched code k g x (item ∷ due) old → IsSearched code k g x due new
