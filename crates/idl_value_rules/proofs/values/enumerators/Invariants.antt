use Rattle.std.proofs.Common.{◌≡◌, drop, option_map}
use Rattle.idl_scope.specs.Seen.{seen_files, known_in}
use Rattle.idl_rule_definitions.specs.Nodes.{World}
use Rattle.idl_rule_definitions.specs.Types.{Names}
use Rattle.idl_rule_definitions.specs.Scene.{Scene}
use Rattle.idl_constructs.specs.SeenNodes.{seen_construct}
use Rattle.idl_rule_definitions.specs.Noted.{noted}
use Rattle.idl_rule_definitions.specs.Found.{seen_breach}
use Rattle.idl_value_rules.proofs.ValueNotes.{enumerator_breaches}
use Rattle.idl_value_rules.proofs.values.enumerators.Given as goal

-- with the enumerators that are left it comes to what all come to
abbrev pub invariant-loop-one : goal.invariant-loop-one
invariant-loop-one l =
    (l.finder.files.now ≡ l.fn.finder.files.now)
    × ((w : World) (s : Scene) (names : Names) → w.files ≡ seen_files l.fn.finder.files.now → s.known ≡ known_in l.scope
    → noted w (option_map seen_breach l.finder.first) (enumerator_breaches s names (seen_construct l.construct) (drop l.one-index l.list))
    ≡ noted w (option_map seen_breach l.fn.finder.first) (enumerator_breaches s names (seen_construct l.construct) l.list))
