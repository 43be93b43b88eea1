-- A cell that gets its number leaves the values of all others.
use mathlib.Core.Path.{fun_ext}
use Rattle.std.proofs.Common.{◌≡◌, ℕ, zero, suc, List, [], ◌∷◌, ◌++◌, refl}
use Rattle.std.specs.List.{slice_get}
use Rattle.nd_value.specs.declared.value.Graph.{Graph}
use Rattle.nd_value.specs.Tree.{Referent}
use Rattle.nd_value.specs.Setting.{cell_at, cell_tree, unread}
use Rattle.nd_flat.specs.Building.{with_cell}

later_unread : (xs : List Referent) (of i : ℕ) → cell_tree (slice_get (xs ++ record { of = of; val = unread } ∷ []) i) ≡ cell_tree (slice_get xs i)
later_unread [] of zero = refl
later_unread [] of (suc i) = refl
later_unread (x ∷ xs) of zero = refl
later_unread (x ∷ xs) of (suc i) = later_unread xs of i

each_cell : (g : Graph) (of c : ℕ) → cell_at (with_cell of g) c ≡ cell_at g c
each_cell g of zero = refl
each_cell g of (suc i) = later_unread g.cells of i

pub cells_stay : (g : Graph) (of : ℕ) → cell_at (with_cell of g) ≡ cell_at g
cells_stay g of = fun_ext {f = cell_at (with_cell of g)} {g = cell_at g} (each_cell g of)
