use Rattle.std.proofs.Common.{◌≡◌, None, option_map}
use Rattle.idl_scope.specs.Seen.{seen_files}
use Rattle.idl_rule_definitions.specs.Nodes.{World}
use Rattle.idl_constructs.specs.SeenNodes.{seen_node, seen_nodes}
use Rattle.idl_rule_definitions.specs.Noted.{noted}
use Rattle.idl_rule_definitions.specs.Found.{seen_breach}
use Rattle.idl_constructs.specs.ListBreaches.{list_breaches_at, list_breaches}
use Rattle.idl_constructs.proofs.Runs.{left}
use Rattle.idl_constructs.proofs.lists.first_breach.Given as goal

-- with the nodes that are left it comes to what all come to
abbrev pub invariant-loop-one : goal.invariant-loop-one
invariant-loop-one l =
    (l.finder.files.now ≡ l.files)
    × ((w : World) → w.files ≡ seen_files l.files
    → noted w (option_map seen_breach l.finder.first) (left (seen_node l.nodes.lists.items) list_breaches_at l.one-items l.one-index) ≡ noted w None (list_breaches (seen_nodes l.nodes)))
