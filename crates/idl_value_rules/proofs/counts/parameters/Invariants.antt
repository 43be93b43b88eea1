use Rattle.std.proofs.Common.{◌≡◌, map, option_map}
use Rattle.std.specs.List.{flat_map}
use Rattle.idl_scope.specs.Seen.{seen_files}
use Rattle.idl_rule_definitions.specs.Nodes.{World}
use Rattle.idl_rule_definitions.specs.Noted.{noted}
use Rattle.idl_rule_definitions.specs.Found.{seen_breach}
use Rattle.idl_value_rules.specs.SeenCounts.{one_too_many, parameters_at}
use Rattle.idl_value_rules.proofs.Passes.{all_left}
use Rattle.idl_value_rules.proofs.counts.parameters.Given as goal

-- with those that are left it comes to what all come to
abbrev pub invariant-loop-node : goal.invariant-loop-node
invariant-loop-node l =
    (l.finder.files.now ≡ l.fn.finder.files.now)
    × ((w : World) → w.files ≡ seen_files l.fn.finder.files.now
    → noted w (option_map seen_breach l.finder.first) (all_left (parameters_at l.nodes.lists.items l.limit) l.node-items l.node-index)
    ≡ noted w (option_map seen_breach l.fn.finder.first) (map one_too_many (flat_map (parameters_at l.fn.nodes.lists.items l.fn.limit) l.fn.nodes.items.items)))
