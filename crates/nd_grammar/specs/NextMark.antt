-- What the entries before an entry fix of it, and the cells to which a stream comes.
use Rattle.std.specs.Prelude.{◌≡◌, ◌⊎◌, ℕ, ◌≤◌, pos, List, [], ◌∷◌, ◌++◌, length, take, flat_map, replicate, Option, Some, None}
use Rattle.std.specs.List.{AllByRecursion}
use Rattle.nd_base.specs.declared.octets.Order.{Order}
use Rattle.nd_value.specs.declared.item.Home.{Home}
use Rattle.nd_value.specs.declared.item.Home.TheVariants as home
use Rattle.nd_value.specs.Setting.{Among}
use Rattle.nd_value.specs.Canon.{own_cell, target}
use Rattle.nd_grammar.specs.Entry.{Kind, Entry, Align, Max, Offset, Actual, Chunk, Number, Num, Tag, Text, Context, Test, Unread, size_at, EntryAt}
use Rattle.nd_grammar.specs.Entry.{end_to_end, full_cells}
use Rattle.nd_grammar.specs.Stream.{IsRendered, IsNumbering}
use Rattle.nd_grammar.specs.Refusal.{Accepts}

-- ## What the entries before an entry fix of it

-- all of an entry's kind but its value: of a pointer's number its class and its referent's type, of a text its length, of an agreement
-- its attribute and both numbers
abbrev pub form : Kind → Kind
form (Align n) = Align n
form (Max v) = Max 0
form (Offset t v) = Offset t 0
form (Actual t offset limit v) = Actual t offset limit 0
form (Chunk v) = Chunk 0
form (Number class to cell) = Number class to None
form (Num p values z) = Num p values (pos 0)
form (Tag p values arms default z) = Tag p values arms default (pos 0)
form (Text octets) = Text (replicate (length octets) 0)
form (Context attributes id) = Context 0 []
form (Test attr wanted found) = Test attr wanted found
form Unread = Unread

-- two entries agree in place, length, node and all of their kind but its value
pub record AreAlike (x y : EntryAt) : Type 0 where
  pub at : x.at ≡ y.at
  pub size : size_at x.at x.entry.kind ≡ size_at y.at y.entry.kind
  pub node : x.entry.node ≡ y.entry.node
  pub kind : form x.entry.kind ≡ form y.entry.kind

abbrev pub StandsUnread : EntryAt → Type 0
StandsUnread x = x.entry.kind ≡ Unread

-- Two next entries agree, or there is none in both; but after an unread value nothing is known.
abbrev pub NextAlike : Option EntryAt → Option EntryAt → Type 0
NextAlike None None = Unit {0}
NextAlike (Some x) None = StandsUnread x
NextAlike None (Some y) = StandsUnread y
NextAlike (Some x) (Some y) = StandsUnread x ⊎ (StandsUnread y ⊎ AreAlike x y)

-- the pairs of cells are a one-to-one map
abbrev pub IsOneToOne : List (ℕ × ℕ) → Type 0
IsOneToOne [] = Unit {0}
IsOneToOne (x ∷ xs) = AllByRecursion (λ y. (x.0 ≡ y.0 → ⊥) × (x.1 ≡ y.1 → ⊥)) xs × IsOneToOne xs

-- two homes correspond under a map of cells: they are the same root, or a pair of cells
abbrev pub HomesCorrespond : List (ℕ × ℕ) → Home → Home → Type 0
HomesCorrespond cells (home.Root i) (home.Root j) = i ≡ j
HomesCorrespond cells (home.Cell c) (home.Cell d) = Among cells (c.0, d.0)
HomesCorrespond cells _ _ = ⊥

-- two lists of entries correspond under a map of cells, home by home and node by node
abbrev pub AllCorrespond : List (ℕ × ℕ) → List EntryAt → List EntryAt → Type 0
AllCorrespond cells [] [] = Unit {0}
AllCorrespond cells (x ∷ xs) (y ∷ ys) = HomesCorrespond cells x.entry.home y.entry.home × (x.entry.node ≡ y.entry.node) × AllCorrespond cells xs ys
AllCorrespond cells _ _ = ⊥

-- the cell that a pointer's number names: none where the pointer is null, and none of an entry that is no pointer's number
abbrev pub named_cell : Kind → Option ℕ
named_cell (Number class to cell) = cell
named_cell _ = None

-- two named cells correspond under a map of cells: they are a pair of it, or there is none in both
abbrev pub CellsCorrespond : List (ℕ × ℕ) → Option ℕ → Option ℕ → Type 0
CellsCorrespond cells None None = Unit {0}
CellsCorrespond cells (Some c) (Some d) = Among cells (c, d)
CellsCorrespond cells _ _ = ⊥

-- The pointers' numbers in two lists of entries name cells that correspond under a map of cells, entry by entry.
abbrev pub AllNameAlike : List (ℕ × ℕ) → List EntryAt → List EntryAt → Type 0
AllNameAlike cells [] [] = Unit {0}
AllNameAlike cells (x ∷ xs) (y ∷ ys) = CellsCorrespond cells (named_cell x.entry.kind) (named_cell y.entry.kind) × AllNameAlike cells xs ys
AllNameAlike cells _ _ = ⊥

-- the first n entries of a stream are there, octets spell them, and none of them is refused
pub record IsReadTo (order : Order) (octets : List ℕ) (entries : List Entry) (n : ℕ) : Type 0 where
  pub there : n ≤ length entries
  pub numbering : ℕ → ℕ
  pub is_numbering : IsNumbering numbering (full_cells entries)
  pub rendered : AllByRecursion (IsRendered order numbering octets) (take n (end_to_end 0 entries))
  pub accepted : Accepts order octets [] (take n (end_to_end 0 entries))

-- ## The cells to which a stream comes, entry by entry

-- `m` is an entry, `c` the number of a cell.

-- An entry comes to the cell in which it stands, and then to the cell that it names, if it is a pointer's number. So a stream comes
-- first to each cell at the first number that names it, but to the referent of a top-level reference pointer where that begins.
abbrev pub cells_met : List Entry → List ℕ
cells_met ms = flat_map (λ m. own_cell m.home ++ target (named_cell m.kind)) ms
