use Rattle.std.proofs.Common.{◌≡◌, ◌++◌, drop}
use Rattle.idl_scope.specs.Seen.{known_in}
use Rattle.idl_declared_types.proofs.LabelLists as lists
use Rattle.idl_declared_types.proofs.labels.add_values.Given as goal

-- what is there, with what is left
abbrev pub invariant-loop-value : goal.invariant-loop-value
invariant-loop-value l = l.list.items ++ lists.each_value (known_in l.scope) l.at (drop l.value-index l.values) ≡ l.fn.list.items ++ lists.each_value (known_in l.scope) l.at l.values
