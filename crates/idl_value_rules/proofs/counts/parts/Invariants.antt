use Rattle.std.proofs.Common.{◌≡◌, map, option_map}
use Rattle.std.specs.List.{flat_map}
use Rattle.idl_scope.specs.Seen.{seen_files}
use Rattle.idl_rule_definitions.specs.Nodes.{World}
use Rattle.idl_rule_definitions.specs.Noted.{noted}
use Rattle.idl_rule_definitions.specs.Found.{seen_breach}
use Rattle.idl_value_rules.specs.SeenCounts.{numbered, one_too_many, parts_at}
use Rattle.idl_value_rules.proofs.Passes.{too_many_due}
use Rattle.idl_value_rules.proofs.counts.parts.Given as goal

-- with those that are left it comes to what all come to
abbrev pub invariant-loop-node : goal.invariant-loop-node
invariant-loop-node l =
    (l.finder.files.now ≡ l.fn.finder.files.now)
    × ((w : World) → w.files ≡ seen_files l.fn.finder.files.now
    → noted w (option_map seen_breach l.finder.first) (too_many_due parts_at l.nodes l.due l.node-index)
    ≡ noted w (option_map seen_breach l.fn.finder.first) (map one_too_many (numbered l.fn.number (flat_map parts_at l.fn.nodes))))
