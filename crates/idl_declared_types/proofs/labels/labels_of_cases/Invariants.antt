use Rattle.std.proofs.Common.{◌≡◌, ◌++◌, drop}
use Rattle.idl_scope.specs.Seen.{known_in}
use Rattle.idl_declared_types.proofs.LabelLists as lists
use Rattle.idl_declared_types.proofs.labels.labels_of_cases.Given as goal

-- what is there, with what is left
abbrev pub invariant-loop-case : goal.invariant-loop-case
invariant-loop-case l = l.list.items ++ lists.of_cases (known_in l.scope) (drop l.case-index l.case-items) ≡ lists.of_cases (known_in l.scope) l.case-items
