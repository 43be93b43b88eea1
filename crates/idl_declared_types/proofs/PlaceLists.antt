-- Numbers by places.
use Rattle.std.proofs.Common.{◌≡◌, ℕ, cond, refl, ap, ◌∙◌, List, [], ◌∷◌, ◌++◌, Some}
use Rattle.std.specs.Map.{lookup}
use Rattle.nd_base.specs.declared.octets.Place.{Place}
use Rattle.idl_declared_types.specs.declared.places.Spot.{Spot}
use Rattle.idl_rule_definitions.specs.Scene.{same_place}
use Rattle.idl_declared_types.specs.Places.{found_place, numbered}
use Rattle.idl_declared_types.specs.contracts.places.SpotPartialEq.TheImpl.{eq-value}

abbrev pub seen_spot : Spot → Place
seen_spot s = record { file = s.file; at = s.at }

pub found_is : (spot : Spot) (es : List (Spot × ℕ)) → lookup (eq-value.it spot) es ≡ found_place (seen_spot spot) (numbered es)
found_is spot [] = refl
found_is spot (e ∷ es) = ap (λ r. cond (same_place (seen_spot spot) (seen_spot e.0)) (Some e.1) r) (found_is spot es)

pub numbered-push : (es : List (Spot × ℕ)) (spot : Spot) (n : ℕ) → numbered (es ++ (spot, n) ∷ []) ≡ numbered es ++ (seen_spot spot, n) ∷ []
numbered-push [] spot n = refl
numbered-push (e ∷ es) spot n = ap (λ r. (seen_spot e.0, e.1) ∷ r) (numbered-push es spot n)
