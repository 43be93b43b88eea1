-- For the code: what nodes break of the other rules, 5 to 38, where these names stand.
use Rattle.std.specs.Prelude.{List}
use Rattle.std.specs.List.{flat_map}
use Rattle.idl_rule_definitions.specs.Nodes.{Node}
use Rattle.idl_rule_definitions.specs.Types.{Names}
use Rattle.idl_rule_definitions.specs.Scene.{Scene}
use Rattle.idl_rule_definitions.specs.Rules.{Breach, breaches_at}
use Rattle.idl_rule_definitions.specs.Noted.{of_others}

abbrev pub others_of : Scene → Names → List Node → List Breach
others_of s names nodes = of_others (flat_map (breaches_at s names) nodes)
