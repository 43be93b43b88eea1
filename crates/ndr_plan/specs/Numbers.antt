-- The numbers of parameters among the roots of a side as the program keeps them.
-- `j` is the index of a parameter, `n` the number of a root.
use Rattle.std.specs.Prelude.{◌≡◌, ℕ, ◌+◌, List, [], ◌∷◌, Option, Some, None, slice_get, slice_set}
use Rattle.nd_types.specs.Roots.{Root, root_index, NamedRoot}

-- what is found, if anything
abbrev pub found : Option (Option ℕ) → Option ℕ
found None = None
found (Some n) = n

-- the number of a parameter
abbrev pub number_in : List (Option ℕ) → ℕ → Option ℕ
number_in items j = found (slice_get items j)

-- a parameter has this number where it had none
abbrev pub kept : List (Option ℕ) → ℕ → ℕ → Option (Option ℕ) → List (Option ℕ)
kept items j n (Some None) = slice_set items j (Some n)
kept items j n _ = items

abbrev pub numbered : List (Option ℕ) → Option ℕ → ℕ → List (Option ℕ)
numbered items None n = items
numbered items (Some j) n = kept items j n (slice_get items j)

-- the parameters that are these roots have their numbers, from n on
abbrev pub all_numbered : List (Option ℕ) → ℕ → List NamedRoot → List (Option ℕ)
all_numbered items n [] = items
all_numbered items n (r ∷ rs) = all_numbered (numbered items r.param n) (n + 1) rs

-- These are the numbers of the parameters among roots.
abbrev pub AreNumbers : List Root → List (Option ℕ) → Type 0
AreNumbers rs items = (j : ℕ) → number_in items j ≡ root_index rs j 0
