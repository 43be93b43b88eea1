-- What files mean that break no rule is legal, and two such interfaces.
use Rattle.std.proofs.Common.{◌≡◌, [], None, subst}
use Rattle.std.specs.Prelude.{All}
use Rattle.std.proofs.lemmas.List.Elements.{All-map}
use Rattle.nd_types.specs.Legal.{IsLegal}
use Rattle.idl_rule_definitions.specs.Nodes.{World}
use Rattle.idl_rule_definitions.specs.Rules.{first_broken, IsLeast, breaches}
use Rattle.nd_types.specs.Meant.{Meant}
use Rattle.idl_rule_definitions.specs.Meaning.{types_of, operations_of, header_meant, main_among, HasIdentifiers}
use Rattle.idl_rule_definitions.proofs.Order.{least}
use Rattle.idl_rule_definitions.specs.Scene.{scene_of}
use Rattle.idl_rule_definitions.specs.Meaning.{meaning}

-- that each file without a broken rule means a legal interface
abbrev pub AllLegal : Type 0
AllLegal = (w : World) → breaches w ≡ [] → HasIdentifiers (types_of (scene_of w)) (operations_of (scene_of w)) → IsLegal (types_of (scene_of w)) (operations_of (scene_of w))

abbrev pub IsLegalMeant : Meant → Type 0
IsLegalMeant m = HasIdentifiers m.types m.operations → IsLegal m.types m.operations

unbroken : (w : World) → first_broken w ≡ None → breaches w ≡ []
unbroken w h = subst (IsLeast w (breaches w)) h (least w (breaches w))

pub of_meaning : AllLegal → (w : World) → first_broken w ≡ None → All IsLegalMeant (meaning w)
unfolding meaning
of_meaning legal w h = All-map IsLegalMeant (header_meant (scene_of w)) (main_among w.files) (λ k t i. legal w (unbroken w h))
