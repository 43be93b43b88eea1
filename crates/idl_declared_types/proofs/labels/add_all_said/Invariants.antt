use Rattle.std.proofs.Common.{◌≡◌, ◌++◌, drop}
use Rattle.idl_scope.specs.Seen.{known_in}
use Rattle.idl_declared_types.proofs.LabelLists as lists
use Rattle.idl_declared_types.proofs.labels.add_all_said.Given as goal

-- what is there, with what is left
abbrev pub invariant-loop-attribute : goal.invariant-loop-attribute
invariant-loop-attribute l = l.list.items ++ lists.all_said (known_in l.scope) (drop l.attribute-index l.attributes) ≡ l.fn.list.items ++ lists.all_said (known_in l.scope) l.attributes
