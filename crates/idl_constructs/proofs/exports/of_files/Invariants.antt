use Rattle.std.proofs.Common.{drop}
use Rattle.std.specs.List.{flat_map}
use Rattle.idl_scope.specs.Seen.{seen_files}
use Rattle.idl_constructs.specs.declared.nodes.Nodes.{Nodes}
use Rattle.idl_rule_definitions.specs.Nodes.{file_nodes}
use Rattle.idl_constructs.specs.Growing.{Adds}
use Rattle.idl_constructs.proofs.exports.of_files.Given as goal

-- whatever is added by what is left, all is added
abbrev pub invariant-loop-at : goal.invariant-loop-at
invariant-loop-at l =
    (end : Nodes) → Adds l.nodes end (flat_map file_nodes (drop l.at (seen_files l.files))) → Adds l.initial.nodes end (flat_map file_nodes (seen_files l.files))
