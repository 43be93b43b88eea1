-- Numbers by places.
use Rattle.std.specs.Prelude.{ℕ, List, Option, map}
use Rattle.std.specs.Map.{lookup}
use Rattle.nd_base.specs.declared.octets.Place.{Place}
use Rattle.idl_declared_types.specs.declared.places.Spot.{Spot}
use Rattle.idl_rule_definitions.specs.Scene.{same_place}

-- the number of a place
abbrev pub found_place : Place → List (Place × ℕ) → Option ℕ
found_place place entries = lookup (same_place place) entries

-- a table of the program as a list
abbrev pub numbered : List (Spot × ℕ) → List (Place × ℕ)
numbered entries = map (λ e. (record { file = e.0.file; at = e.0.at }, e.1)) entries
