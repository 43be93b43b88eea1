use Rattle.std.proofs.Common.{◌≡◌, option_map}
use Rattle.idl_scope.specs.Seen.{seen_files, known_in}
use Rattle.idl_rule_definitions.specs.Nodes.{World}
use Rattle.idl_rule_definitions.specs.Scene.{Scene}
use Rattle.idl_declared_types.specs.SeenTypes.{scene_seen, scoped_front, IsTypes}
use Rattle.idl_value_rules.specs.SeenMarks.{AreMarks}
use Rattle.idl_rule_definitions.specs.Noted.{noted}
use Rattle.idl_rule_definitions.specs.Found.{seen_breach}
use Rattle.idl_value_rules.specs.RestBreaches.{rest_breaches}
use Rattle.idl_rules.proofs.uses.each_node.Given as goal

-- the rules on the nodes so far
abbrev pub invariant-loop-at : goal.invariant-loop-at
invariant-loop-at l =
    (l.finder.files.now ≡ l.fn.finder.files.now)
    × ((w : World) (s : Scene) → w.files ≡ seen_files l.fn.finder.files.now → s ≡ scene_seen (known_in l.scope) l.nodes
    → IsTypes s l.nodes l.types → AreMarks s l.types.kinds l.marks
    → option_map seen_breach l.finder.first ≡ noted w (option_map seen_breach l.fn.finder.first) (rest_breaches s (scoped_front s.known l.nodes l.at)))
