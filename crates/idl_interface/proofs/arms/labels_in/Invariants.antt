use Rattle.std.proofs.Common.{◌≡◌, ◌++◌, drop}
use Rattle.idl_scope.specs.Seen.{known_in}
use Rattle.idl_interface.proofs.Making.{labels_left}
use Rattle.idl_interface.proofs.arms.labels_in.Given as goal

-- what is there, with what is left
abbrev pub invariant-loop-attribute : goal.invariant-loop-attribute
invariant-loop-attribute l =
    l.labels.items ++ labels_left (known_in l.scope) (drop l.attribute-index l.attributes) ≡ labels_left (known_in l.scope) l.attributes
