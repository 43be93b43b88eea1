use Rattle.std.proofs.Common.{◌≡◌, [], option_map}
use Rattle.idl_scope.specs.Seen.{seen_files}
use Rattle.idl_rule_definitions.specs.Nodes.{World}
use Rattle.idl_constructs.specs.SeenNodes.{seen_construct}
use Rattle.idl_rule_definitions.specs.Noted.{noted}
use Rattle.idl_rule_definitions.specs.Found.{seen_breach}
use Rattle.idl_declared_types.specs.LabelValues.{Holds, value_breaches}
use Rattle.idl_value_rules.specs.AcceptedLabels.{accepts}
use Rattle.idl_declared_types.proofs.LabelTags.{values_before, labels_left}
use Rattle.idl_value_rules.proofs.label_rule.each_label.Given as goal

-- the values before are there, and with the labels that are left it comes to what all come to
abbrev pub invariant-loop-one : goal.invariant-loop-one
invariant-loop-one l =
    (l.finder.files.now ≡ l.fn.finder.files.now)
    × Holds l.before (values_before l.list l.one-index)
    × ((w : World) → w.files ≡ seen_files l.fn.finder.files.now
    → noted w (option_map seen_breach l.finder.first) (labels_left (accepts l.accepted) (seen_construct l.construct) l.list l.one-index)
    ≡ noted w (option_map seen_breach l.fn.finder.first) (value_breaches (accepts l.accepted) (seen_construct l.construct) [] l.list))
