use Rattle.std.proofs.Common.{◌≡◌, ◌-◌, drop, option_map}
use Rattle.idl_scope.specs.Seen.{seen_files}
use Rattle.idl_rule_definitions.specs.Nodes.{World}
use Rattle.idl_rule_definitions.specs.Noted.{noted}
use Rattle.idl_rule_definitions.specs.Found.{seen_breach}
use Rattle.idl_constructs.specs.SeenNodes.{seen_construct}
use Rattle.idl_value_rules.proofs.Passes.{given_due}
use Rattle.idl_value_rules.proofs.CountedLabels.{in_attributes, in_attribute, attributes_cons}
use Rattle.idl_value_rules.proofs.counts.labels_in.Given as goal

-- with those that are left it comes to what all come to
abbrev pub invariant-loop-attribute : goal.invariant-loop-attribute
invariant-loop-attribute l =
    (l.finder.files.now ≡ l.fn.finder.files.now)
    × (l.due - in_attributes (drop l.attribute-index l.attributes) ≡ l.fn.number - in_attributes l.attributes)
    × ((w : World) → w.files ≡ seen_files l.fn.finder.files.now
    → noted w (option_map seen_breach l.finder.first) (given_due in_attributes in_attribute attributes_cons l.attributes (seen_construct l.construct) l.due l.attribute-index)
    ≡ noted w (option_map seen_breach l.fn.finder.first) (given_due in_attributes in_attribute attributes_cons l.attributes (seen_construct l.construct) l.fn.number 0))
