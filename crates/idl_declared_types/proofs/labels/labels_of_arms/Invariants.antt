use Rattle.std.proofs.Common.{◌≡◌, ◌++◌, drop}
use Rattle.idl_scope.specs.Seen.{known_in}
use Rattle.idl_declared_types.proofs.LabelLists as lists
use Rattle.idl_declared_types.proofs.labels.labels_of_arms.Given as goal

-- what is there, with what is left
abbrev pub invariant-loop-arm : goal.invariant-loop-arm
invariant-loop-arm l = l.list.items ++ lists.of_arms (known_in l.scope) (drop l.arm-index l.arm-items) ≡ lists.of_arms (known_in l.scope) l.arm-items
