-- For the code: how large the numbers of names are. No definition of the language is here.
use Rattle.std.specs.Prelude.{ℕ, ◌+◌, ◌^◌, Bool, true, nat_lt, List, ℤ, pos, negsuc}
use Rattle.std.specs.List.{list_all}
use Rattle.idl_scope.specs.declared.meaning.Meaning.{Meaning}
use Rattle.idl_scope.specs.declared.meaning.Meaning.TheVariants as meaning

-- A number below 2^64 and so many more. An operator's value is below 2^64, and each enumerator counts on by one from the one before it.
abbrev pub is_below : ℕ → ℤ → Bool
is_below more (pos n) = nat_lt n (2 ^ 64 + more)
is_below more (negsuc n) = true

-- a number of a name, if it has one
abbrev pub is_small : ℕ → Meaning → Bool
is_small more (meaning.Number z) = is_below more z
is_small more _ = true

-- the numbers of all these names
abbrev pub are_small : ℕ → List (List ℕ × Meaning) → Bool
are_small more meanings = list_all (λ e. is_small more e.1) meanings
