use Rattle.std.proofs.Common.{◌≡◌, ◌++◌, drop}
use Rattle.idl_scope.specs.Seen.{known_in}
use Rattle.idl_declared_types.proofs.LabelLists as lists
use Rattle.idl_declared_types.proofs.labels.add_labels.Given as goal

-- what is there, with what is left
abbrev pub invariant-loop-label : goal.invariant-loop-label
invariant-loop-label l = l.list.items ++ lists.each_label (known_in l.scope) (drop l.label-index l.labels) ≡ l.fn.list.items ++ lists.each_label (known_in l.scope) l.labels
