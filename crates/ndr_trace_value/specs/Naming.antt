-- The cells that pointers name, in the order of a stream.
-- `k` are the octets with the partial graph in which they are refused, `u` the cells that are named so far, `n` is how many these are, `full` are
-- those of them that full pointers named, `names` are the cells that are named after these, each with the class of its pointer; `c` is a cell, `x` a
-- cell or none, `h` a home, `n` a node's number, `v` the number of a full pointer, `r` what is known of it, `t` a type's number.
use Rattle.std.specs.Prelude.{◌≡◌, ◌⊎◌, ◌<◌, ◌≤◌, ◌^◌, ℕ, suc, List, [], ◌∷◌, ◌++◌, Bool, false, true, flat_map, slice_index_or, Option, Some, None}
use Rattle.std.specs.List.{AllByRecursion}
use Rattle.nd_types.specs.declared.types.Class.{Class}
use Rattle.nd_types.specs.declared.types.Class.TheVariants.{Full, Ref}
use Rattle.nd_value.specs.declared.item.Home.{Home}
use Rattle.nd_value.specs.declared.value.Graph.{Graph}
use Rattle.nd_value.specs.Deferral.{IsPlaced, Placed_cells}
use Rattle.nd_value.specs.Setting.{Among, cell_of_number}
use Rattle.nd_value.specs.Tree.{Referent}
use Rattle.nd_grammar.specs.Entry.{Entry, Kind, Number}
use Rattle.nd_grammar.specs.Stream.{IsNumber, IsNumbering}
use Rattle.ndr_refs.specs.declared.referents.Known.{Known as KnownNumber}
use Rattle.ndr_refs.specs.Known.{known}
use Rattle.ndr_trace_value.specs.declared.cells.Cells.{Cells}
use Rattle.ndr_trace_value.specs.declared.cells.Pending.{Pending}
use Rattle.ndr_trace_value.specs.declared.pointers.PointerSpot.{PointerSpot}
use Rattle.ndr_trace_value.specs.Tracing.{Known, spot_of}

-- ## Cells in turn

-- the cell of a full pointer
abbrev pub full_one : Class → ℕ → List ℕ
full_one Full c = c ∷ []
full_one _ c = []

-- the cell that a pointer names, if it is not null
abbrev pub names_of : Class → Option ℕ → Placed_cells
names_of class None = []
names_of class (Some c) = (class, c) ∷ []

-- Each cell is named for the first time as the next one, and again by full pointers alone, if one has named it.
abbrev pub InTurn : ℕ → List ℕ → Placed_cells → Type 0
InTurn n full [] = Unit {0}
InTurn n full (d ∷ ds) =
    ((d.1 ≡ suc n) × InTurn (suc n) (full_one d.0 d.1 ++ full) ds) ⊎ ((d.0 ≡ Full) × Among full d.1 × InTurn n full ds)

-- ## The numbers of full pointers

-- a cell of this type
abbrev pub HasType : Graph → ℕ → ℕ → Type 0
HasType g c t = (y : Referent) × (cell_of_number g c ≡ Some y) × (y.of ≡ t)

-- a pointer to a value of this type names a cell of the type, or it is null; a reference pointer is not
abbrev pub IsFine : Graph → Class → ℕ → Option ℕ → Type 0
IsFine g Ref t None = ⊥
IsFine g class t None = Unit {0}
IsFine g class t (Some c) = HasType g c t

-- The numbers that are known are those of the cells that full pointers named, each with its cell and the cell's type.
pub record HasNumbers (k : Known) (full : List ℕ) (numbers : List (ℕ × KnownNumber)) : Type 0 where
  pub listed : (c : ℕ) → Among full c → (r : KnownNumber) × (known (k.numbering c) numbers ≡ Some r) × (r.cell.0 ≡ c)
  pub among : (v : ℕ) (r : KnownNumber) → known v numbers ≡ Some r → Among full r.cell.0
  pub number : (v : ℕ) (r : KnownNumber) → known v numbers ≡ Some r → k.numbering r.cell.0 ≡ v
  pub typed : (v : ℕ) (r : KnownNumber) → known v numbers ≡ Some r → HasType k.graph r.cell.0 r.of.0

-- ## All that is known while cells are named

-- cells are numbered in 32 bits, and full pointers name these
abbrev pub IsNumbered : List ℕ → Class × ℕ → Type 0
IsNumbered cells d = (d.1 < 2 ^ 32) × (d.0 ≡ Full → Among cells d.1)

-- So many cells are named, and the numbers of full pointers are known, where these names follow.
pub record IsNaming (k : Known) (u : Cells) (names : Placed_cells) : Type 0 where
  pub is_numbering : IsNumbering k.numbering k.full
  pub full : List ℕ
  pub low : AllByRecursion (λ c. c ≤ u.count) full
  pub have_numbers : AllByRecursion (Among k.full) full
  pub numbers : HasNumbers k full u.numbers
  pub turn : InTurn u.count full names
  pub named : AllByRecursion (IsNumbered k.full) names

-- ## What entries name

abbrev pub named_by : Kind → Placed_cells
named_by (Number class to cell) = names_of class cell
named_by _ = []

abbrev pub names_in : List Entry → Placed_cells
names_in ms = flat_map (λ m. named_by m.kind) ms

-- where a pointer of a class is, at a node of a home, unless it is full
abbrev pub only_spot : Known → Class → Home → ℕ → Option PointerSpot
only_spot k Full h n = None
only_spot k class h n = Some (spot_of k h n)

-- the pointer at a node of a home that is pending then
abbrev pub pending_of : Known → Home → ℕ → Class → ℕ → Option ℕ → List Pending
pending_of k h n class t None = []
pending_of k h n class t (Some c) = record { cell = record { 0 = c }; to = record { 0 = t }; from = only_spot k class h n } ∷ []

abbrev pub pending_by : Known → Home → ℕ → Kind → List Pending
pending_by k h n (Number class to cell) = pending_of k h n class to cell
pending_by k h n _ = []

abbrev pub pending_in : Known → List Entry → List Pending
pending_in k ms = flat_map (λ m. pending_by k m.home m.node m.kind) ms

-- the cells that these entries name were named, and then those names follow
pub record HasNamed (k : Known) (before after : Cells) (due : List Entry) (names : Placed_cells) : Type 0 where
  pub naming : IsNaming k after names
  pub pending : after.pending.items ≡ before.pending.items ++ pending_in k due
  pub stands : after.stands ≡ before.stands

-- ## Cells whose values were come to

-- a cell's value was come to
abbrev pub stands_at : List Bool → ℕ → Bool
stands_at stands c = slice_index_or stands c false

-- it was for the cells that stand by the order of deferral, and for no others
abbrev pub Stand : List Bool → Placed_cells → Type 0
Stand stands done = (c : ℕ) → (stands_at stands c ≡ true → IsPlaced done c) × (IsPlaced done c → stands_at stands c ≡ true)
