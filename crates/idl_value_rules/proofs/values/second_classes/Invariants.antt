use Rattle.std.proofs.Common.{◌≡◌, option_map}
use Rattle.idl_scope.specs.Seen.{seen_files}
use Rattle.idl_rule_definitions.specs.Nodes.{World, attribute_nodes}
use Rattle.idl_rule_definitions.specs.Types.{Names}
use Rattle.idl_rule_definitions.specs.Scene.{Scene}
use Rattle.idl_constructs.specs.SeenNodes.{seen_construct}
use Rattle.idl_rule_definitions.specs.Noted.{noted}
use Rattle.idl_rule_definitions.specs.OthersOf.{others_of}
use Rattle.idl_rule_definitions.specs.Found.{seen_breach}
use Rattle.idl_value_rules.proofs.ValueNotes.{class_breaches, has_class_before}
use Rattle.idl_value_rules.proofs.values.second_classes.Given as goal

-- whether a class is before, and with the attributes that are left it comes to what all come to
abbrev pub invariant-loop-one : goal.invariant-loop-one
invariant-loop-one l =
    (l.finder.files.now ≡ l.fn.finder.files.now)
    × (l.found ≡ has_class_before l.one-items l.one-index)
    × ((w : World) (s : Scene) (names : Names) → w.files ≡ seen_files l.fn.finder.files.now
    → noted w (option_map seen_breach l.finder.first) (class_breaches s names (seen_construct l.construct) l.one-items l.one-index)
    ≡ noted w (option_map seen_breach l.fn.finder.first) (others_of s names (attribute_nodes (seen_construct l.fn.construct))))
