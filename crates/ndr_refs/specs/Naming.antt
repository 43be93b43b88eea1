-- The numbers of a table are the domain of a map from numbers to cells.
-- `m` and `n` are numbers, `c` is a cell, `map` a table, `old` and `new` are those before and after a call.
use Rattle.std.specs.Prelude.{◌≡◌, ◌≢◌, ℕ, List, Option, Some, option_map}
use Rattle.nd_value.specs.declared.value.CellId.{CellId}
use Rattle.ndr_refs.specs.declared.referents.Known.{Known}
use Rattle.ndr_refs.specs.Known.{known}

-- the cell that a number names, if the table has the number
abbrev pub cell_of : ℕ → List (ℕ × Known) → Option CellId
cell_of n map = option_map (λ k. k.cell) (known n map)

-- A number was met: it names this cell, and each other number names what it named before. So the table has the numbers that it had, and this one.
pub record HasMet (n : ℕ) (c : CellId) (old new : List (ℕ × Known)) : Type 0 where
  pub here : cell_of n new ≡ Some c
  pub others : (m : ℕ) → m ≢ n → cell_of m new ≡ cell_of m old

-- each number names what it named before
abbrev pub NameAsBefore : List (ℕ × Known) → List (ℕ × Known) → Type 0
NameAsBefore old new = (m : ℕ) → cell_of m new ≡ cell_of m old

-- no two numbers name one cell
abbrev pub IsOneToOne : List (ℕ × Known) → Type 0
IsOneToOne map = (m n : ℕ) (c : CellId) → cell_of m map ≡ Some c → cell_of n map ≡ Some c → m ≡ n

-- no number names the cell
abbrev pub IsUnnamed : CellId → List (ℕ × Known) → Type 0
IsUnnamed c map = (m : ℕ) → cell_of m map ≢ Some c
