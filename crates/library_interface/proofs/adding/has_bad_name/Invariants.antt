use Rattle.std.proofs.Common.{drop}
use Rattle.library_interface.specs.Named.{HasBadName}
use Rattle.library_interface.proofs.adding.has_bad_name.Given as goal

-- a name that is not UTF-8 is one of those that are left
abbrev pub invariant-loop-at : goal.invariant-loop-at
invariant-loop-at l = HasBadName l.files → HasBadName (drop l.at l.files)
