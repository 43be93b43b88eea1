-- Cells that are named in the order of their numbers.
-- `n` is how many cells have been named, `m` how many there are, `d` is a cell, `ds` are those that are named.
use Rattle.std.specs.Prelude.{◌≡◌, ◌⊎◌, ◌<◌, ◌≤◌, ℕ, suc, List, [], ◌∷◌}

-- each cell is named for the first time as the next one
abbrev pub Counts : ℕ → List ℕ → ℕ → Type 0
Counts n [] m = n ≡ m
Counts n (d ∷ ds) m = ((0 < d) × (d ≤ n) × Counts n ds m) ⊎ ((d ≡ suc n) × Counts (suc n) ds m)

abbrev pub IsIn : ℕ → ℕ → Type 0
IsIn m d = (0 < d) × (d ≤ m)
