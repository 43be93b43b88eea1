-- What holds while a stream is read: of the roots, the cells and the names so far, and of the pointers that are due.
use Rattle.std.specs.Prelude.{◌≡◌, ◌⊎◌, ℕ, ◌+◌, ◌*◌, ◌^◌, ◌<◌, ◌≤◌, zero, suc, false, List, [], ◌∷◌, ◌++◌, length, map, Option, Some, None}
use Rattle.std.specs.List.{AllByRecursion, slice_get}
use Rattle.nd_base.specs.declared.octets.Order.{Order}
use Rattle.nd_types.specs.declared.types.Class.TheVariants.{Full}
use Rattle.nd_types.specs.declared.types.TypeDef.{TypeDef}
use Rattle.nd_types.specs.Kinds.{is_pipe, referent_type}
use Rattle.nd_types.specs.Number.{AreOctets}
use Rattle.nd_types.specs.Roots.{Root}
use Rattle.nd_types.specs.Table.{Table, type_at}
use Rattle.nd_value.specs.Conforms.{AllEarlier, Reached, ShareOnlyIfFull, all_pointers}
use Rattle.nd_value.specs.Deferral.{Pending, Placed_cells, IsPlaced, IsPlacedFull, before_pipes}
use Rattle.nd_value.specs.Setting.{Setting, Among, root_list, unread}
use Rattle.nd_value.specs.Tree.{Tree, none, more, Referent}
use Rattle.nd_grammar.specs.declared.reason.Reason.{Reason}
use Rattle.nd_grammar.specs.Entry.{EntryAt}
use Rattle.nd_grammar.specs.LegalSide.{IsLegalSide}
use Rattle.nd_grammar.specs.MadeTrees.{MadeTrees}
use Rattle.nd_grammar.specs.Reader.{Progress, Names}
use Rattle.nd_grammar.specs.Refusal.{is_other}
use Rattle.nd_grammar.specs.StreamReader.{Reading, graph_of}

-- ## Types

-- a type of the table
abbrev pub Known : Table → ℕ → Type 0
Known table t = (d : TypeDef) × (type_at table t ≡ Some d)

-- a type is no pipe, and no reference pointer to one
pub record IsNoPipe (table : Table) (t : ℕ) : Type 0 where
  pub itself : is_pipe (type_at table t) ≡ false
  pub referent : is_pipe (referent_type table t) ≡ false

-- a type of the table that holds no pipe
pub record Usable (table : Table) (t : ℕ) : Type 0 where
  pub known : Known table t
  pub no_pipe : IsNoPipe table t

abbrev pub UsablePointer : Table → Pending → Type 0
UsablePointer table p = Usable table p.to

-- ## Cells and their numbers

-- a cell by its number, from 1
abbrev pub cell_in : List Referent → ℕ → Option Referent
cell_in cells zero = None
cell_in cells (suc i) = slice_get cells i

abbrev pub numbered_cells : List (ℕ × ℕ) → List ℕ
numbered_cells xs = map (λ x. x.1) xs

-- names at the beginning
abbrev pub no_names : Names
no_names = record { cells = []; numbers = [] }

-- a number of a full pointer: it is one of 32 bits and not 0, and its cell is there
abbrev pub NumberOk : ℕ → ℕ × ℕ → Type 0
NumberOk n x = (0 < x.0) × (x.0 < 2 ^ 32) × (x.1 ≤ n)

abbrev pub Differ : ℕ × ℕ → ℕ × ℕ → Type 0
Differ x y = (x.0 ≡ y.0 → ⊥) × (x.1 ≡ y.1 → ⊥)

-- the numbers of full pointers are distinct, and so are their cells
pub record NumbersOk (s : Names) : Type 0 where
  pub each : AllByRecursion (NumberOk (length s.cells)) s.numbers
  pub apart : AllEarlier Differ s.numbers

module _ (order : Order) (octets : List ℕ) where
  -- each number that full pointers have had is that of a cell; where no earlier full pointer with it is to another type, the type is the cell's
  abbrev pub LinkedOne : List EntryAt → List Referent → ℕ × ℕ → Type 0
  LinkedOne seen cells x =
      (y : Referent) × (cell_in cells x.1 ≡ Some y) × ((to : ℕ) → is_other order octets seen x.0 to ≡ false → to ≡ y.of)

  pub record Linked (p : Progress) (s : Names) : Type 0 where
    pub all : AllByRecursion (LinkedOne p.seen s.cells) s.numbers

-- ## Pointers

-- A pointer that was read between two states of the names: its cell is there, with its type; it is new, or it is numbered already and the
-- pointer is full; and it is numbered exactly if the pointer is full.
pub record PointerAt (s s' : Names) (p : Pending) (c : ℕ) : Type 0 where
  pub there : (x : Referent) × (cell_in s'.cells c ≡ Some x) × (x.of ≡ p.to)
  pub within : c ≤ length s'.cells
  pub new_or_full : (length s.cells < c) ⊎ ((p.class ≡ Full) × Among (numbered_cells s.numbers) c)
  pub full : p.class ≡ Full → Among (numbered_cells s'.numbers) c
  pub not_full : (p.class ≡ Full → ⊥) → Among (numbered_cells s'.numbers) c → ⊥

abbrev pub PointerOk : Names → Names → Pending → Type 0
PointerOk s s' p = (c : ℕ) → p.cell ≡ Some c → PointerAt s s' p c

-- pointers that were read between two states
pub record PointersOk (s s' : Names) (ps : List Pending) : Type 0 where
  pub each : AllByRecursion (PointerOk s s') ps
  pub apart : AllEarlier ShareOnlyIfFull ps

-- ## What was read

-- 1 where reading has stopped
abbrev pub stopped : Option (ℕ × Reason) → ℕ
stopped None = 0
stopped (Some r) = 1

-- the place, and 4 more where reading has stopped: so much pays for the pointer at which it stopped
abbrev pub paid : Progress → ℕ
paid p = p.at + 4 * stopped p.stop

-- what a cell holds was made
abbrev pub CellMade : Table → Referent → Type 0
CellMade table x = MadeTrees table (x.of ∷ []) (more x.val none)

-- roots that were read, each of its type
abbrev pub RootsMade : Table → List Root → List Tree → Type 0
RootsMade table rs [] = Unit {0}
RootsMade table [] (v ∷ vs) = ⊥
RootsMade table (r ∷ rs) (v ∷ vs) = MadeTrees table (r.of ∷ []) (more v none) × RootsMade table rs vs

module _ (w : Setting) where
  -- all cells are reached
  abbrev pub AllReached : List Tree → Names → Type 0
  AllReached roots s = (c : ℕ) → 0 < c → c ≤ length s.cells → Reached w (graph_of roots s) c

module _ (w : Setting) (side : IsLegalSide w) (order : Order) (octets : List ℕ) (all : AreOctets octets) where
  -- each cell that stands was named by a pointer that was taken
  abbrev pub Named : Placed_cells → List Pending → Type 0
  Named done taken = (c : ℕ) → IsPlaced done c → (q : Pending) × Among taken q × (q.cell ≡ Some c) × (q.class ≡ Full → IsPlacedFull done c)

  -- What holds while a stream is read: of the pointers that were taken, those that are due, and n roots to come.
  pub record State (s : Reading) (taken ps : List Pending) (n : ℕ) : Type 0 where
    pub roots_left : length s.roots + n ≡ before_pipes (root_list w)
    pub linked : Linked order octets s.progress s.names
    pub apart : PointersOk no_names s.names (taken ++ ps)
    pub pointers : PointersOk no_names s.names (all_pointers w (graph_of s.roots s.names))
    pub usable : AllByRecursion (UsablePointer w.table) ps
    pub named : Named s.done taken
    pub blank : (c : ℕ) (x : Referent) → cell_in s.names.cells c ≡ Some x → ¬ IsPlaced s.done c → x.val ≡ unread
    pub numbers : NumbersOk s.names
    pub roots_made : RootsMade w.table (root_list w) s.roots
    pub cells_made : AllByRecursion (CellMade w.table) s.names.cells
    pub within : s.progress.at ≤ length octets
    pub few : 4 * length s.names.cells ≤ paid s.progress + 4 * length s.roots
    pub reached : AllReached w s.roots s.names
