-- Lists of names, to which octets are added one by one.
use Rattle.std.specs.Prelude.{ℕ, ◌+◌, List, [], ◌∷◌, ◌++◌, length}

-- names, with an octet more at the end of the last one
abbrev pub with_octet : ℕ → List (List ℕ) → List (List ℕ)
with_octet octet [] = (octet ∷ []) ∷ []
with_octet octet (name ∷ []) = (name ++ octet ∷ []) ∷ []
with_octet octet (name ∷ next ∷ names) = name ∷ with_octet octet (next ∷ names)

-- how many names there are, with all their octets
abbrev pub octets_and_names : List (List ℕ) → ℕ
octets_and_names [] = 0
octets_and_names (name ∷ names) = length name + 1 + octets_and_names names
