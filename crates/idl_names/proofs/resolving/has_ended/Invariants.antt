use Rattle.std.proofs.Common.{◌≡◌, drop}
use Rattle.idl_scope.specs.Seen.{seen_files}
use Rattle.idl_scope.specs.Known.{has_ended}
use Rattle.idl_names.proofs.resolving.has_ended.Given as goal

abbrev pub invariant-loop-at : goal.invariant-loop-at
invariant-loop-at l = has_ended (seen_files l.files) l.number ≡ has_ended (drop l.at (seen_files l.files)) l.number
