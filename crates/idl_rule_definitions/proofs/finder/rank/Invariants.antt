use Rattle.std.proofs.Common.{◌≡◌, ◌+◌, drop, length}
use Rattle.idl_scope.specs.Seen.{seen_files}
use Rattle.idl_rule_definitions.specs.Rules.{rank_in}
use Rattle.idl_rule_definitions.proofs.finder.rank.Given as goal

-- it is none of those before
abbrev pub invariant-loop-at : goal.invariant-loop-at
invariant-loop-at l = rank_in (seen_files l.files) l.file ≡ l.at + rank_in (drop l.at (seen_files l.files)) l.file
