use Rattle.std.proofs.Common.{◌≡◌, drop}
use Rattle.idl_scope.specs.Known.{first_undefined}
use Rattle.idl_scope.proofs.known.NameTables.first_undefined.Given as goal

abbrev pub invariant-loop-one : goal.invariant-loop-one
invariant-loop-one l = first_undefined l.self l.self.uses ≡ first_undefined l.self (drop l.one-index l.one-items)
