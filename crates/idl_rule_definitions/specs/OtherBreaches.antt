-- For the code: what nodes break of all rules but those on attribute lists, 5 to 38.
use Rattle.std.specs.Prelude.{List}
use Rattle.std.specs.List.{flat_map}
use Rattle.idl_rule_definitions.specs.Scene.{Scene, Scoped}
use Rattle.idl_rule_definitions.specs.Rules.{Breach, breaches_at}
use Rattle.idl_rule_definitions.specs.Noted.{of_others}

abbrev pub other_breaches_at : Scene → Scoped → List Breach
other_breaches_at s n = of_others (breaches_at s n.names n.node)

abbrev pub other_breaches : Scene → List Breach
other_breaches s = flat_map (other_breaches_at s) s.nodes
