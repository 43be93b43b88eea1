-- For the code: what nodes break of rules 5 to 38 but 11, which is judged for all bodies at once.
use Rattle.std.specs.Prelude.{ℕ, Bool, true, false, ◌==◌, List, [], ◌∷◌}
use Rattle.std.specs.List.{flat_map}
use Rattle.idl_rule_definitions.specs.Nodes.{Node, BodyNode}
use Rattle.idl_rule_definitions.specs.Scene.{Scene, Scoped, Body, bodies}
use Rattle.idl_rule_definitions.specs.TypeRules.{contains_itself}
use Rattle.idl_rule_definitions.specs.Rules.{Breach, broken_in}
use Rattle.idl_rule_definitions.specs.OtherBreaches.{other_breaches_at}
use Rattle.idl_rule_definitions.specs.declared.rule.TheConstants as Rule

-- those of a node, but for rule 11
abbrev pub but_cycles : List Breach → List Breach
but_cycles [] = []
but_cycles (b ∷ bs) = elim (b.rule == Rule.NO_TYPE_IN_ITSELF) [ true ↦ but_cycles bs | false ↦ b ∷ but_cycles bs ]

abbrev pub cycles_alone : List Breach → List Breach
cycles_alone [] = []
cycles_alone (b ∷ bs) = elim (b.rule == Rule.NO_TYPE_IN_ITSELF) [ true ↦ b ∷ cycles_alone bs | false ↦ cycles_alone bs ]

abbrev pub rest_breaches_at : Scene → Scoped → List Breach
rest_breaches_at s n = but_cycles (other_breaches_at s n)

abbrev pub rest_breaches : Scene → List Scoped → List Breach
rest_breaches s ns = flat_map (rest_breaches_at s) ns

-- rule 11, of all bodies
abbrev pub cycle_of : Scene → Body → List Breach
cycle_of s b = broken_in b.construct Rule.NO_TYPE_IN_ITSELF (contains_itself s b)

abbrev pub cycle_breaches : Scene → List Breach
cycle_breaches s = flat_map (cycle_of s) (bodies s)
