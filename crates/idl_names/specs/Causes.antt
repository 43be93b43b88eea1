-- What faults of files rest on.
use Rattle.std.specs.Prelude.{ℕ, ⊤}
use Rattle.nd_base.specs.Over.{Rose}
use Rattle.idl_scope.specs.declared.name_fault.NameFault.{NameFault}
use Rattle.idl_scope.specs.declared.name_fault.NameFault.TheVariants as fault

-- Absent comes only where the count of absences rose.
abbrev pub IsAbsent : ℕ → ℕ → NameFault → Type 0
IsAbsent before now (fault.Absent file) = Rose before now
IsAbsent before now _ = ⊤

-- Failed comes only where the count of faults rose.
abbrev pub IsFailed : ℕ → ℕ → NameFault → Type 0
IsFailed before now (fault.Failed file) = Rose before now
IsFailed before now _ = ⊤
