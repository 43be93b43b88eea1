-- Names that only contracts see: those by which files were asked for.
use Rattle.std.specs.Prelude.{ℕ, List, [], ◌∷◌, ◌++◌}
use Rattle.nd_base.specs.NameLists.{with_octet}
use Rattle.nd_base.specs.declared.asked.Last.{Last}
use Rattle.nd_base.specs.declared.asked.Last.TheVariants.{Nothing, Name, Octet}

-- the names that a step comes to
abbrev pub names_of : Last → List (List ℕ)
names_of Nothing = []
names_of (Name before) = before.value ++ [] ∷ []
names_of (Octet before octet) = with_octet octet before.value
