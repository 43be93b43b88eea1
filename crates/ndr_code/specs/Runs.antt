-- That a run is in the code of a plan at an address; and the same of any list.
use Rattle.std.specs.Prelude.{◌≡◌, ℕ, List, ◌++◌, drop}

-- from this place on the list is this run, and then any rest
abbrev pub IsRunAt : {X : Type 0} → List X → ℕ → List X → Type 0
IsRunAt {X} list at run = (rest : List X) × (drop at list ≡ run ++ rest)
