use Rattle.std.proofs.Common.{◌≡◌, drop}
use Rattle.idl_scope.specs.Seen.{seen_files}
use Rattle.idl_rule_definitions.specs.Meaning.{main_among}
use Rattle.idl_interface.proofs.meaning.main_tree.Given as goal

-- what is left says what all say
abbrev pub invariant-loop-at : goal.invariant-loop-at
invariant-loop-at l = main_among (drop l.at (seen_files l.scope.files)) ≡ main_among (seen_files l.scope.files)
