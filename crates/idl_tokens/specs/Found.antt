-- What a symbol stands for, where it is one of a list.
use Rattle.std.specs.Prelude.{ℕ, ◌==◌, if◌then◌else◌, List, [], ◌∷◌, Option, Some, None}
use Rattle.idl_grammar.specs.Expressions.{Meant}

abbrev pub found : {A : Type 0} → List (Meant A) → ℕ → Option A
found [] s = None
found (m ∷ others) s = if s == m.symbol then Some m.value else found others s
