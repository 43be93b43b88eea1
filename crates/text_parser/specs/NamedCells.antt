-- The cells that pointers have named.
use Rattle.std.specs.Prelude.{◌≡◌, ℕ, ◌<◌, nat_eq, List, [], ◌∷◌, ◌++◌, Option, None, option_map}
use Rattle.std.specs.Map.{lookup}
use Rattle.nd_types.specs.declared.types.TypeId.{TypeId}
use Rattle.text_grammar.specs.Dues.{named_type}

-- entries of a map, each a cell with its type, the last first
abbrev pub backwards : List (ℕ × TypeId) → List (ℕ × ℕ)
backwards [] = []
backwards (e ∷ es) = backwards es ++ (e.0, e.1.0) ∷ []

-- the type of a cell by the first entry
abbrev pub found : List (ℕ × TypeId) → ℕ → Option ℕ
found es c = option_map (λ t. t.0) (lookup (nat_eq c) es)

-- no cell has two entries with two types
abbrev pub Agrees : List (ℕ × TypeId) → Type 0
Agrees es = (c : ℕ) → found es c ≡ named_type (backwards es) c

-- no cell of a greater number has an entry
abbrev pub HasNoneAfter : List (ℕ × TypeId) → ℕ → Type 0
HasNoneAfter es most = (c : ℕ) → most < c → found es c ≡ None
