use Rattle.std.proofs.Common.{◌≡◌, ◌++◌, map, drop}
use Rattle.idl_grammar.specs.Seen.{seen_label}
use Rattle.idl_scope.specs.Seen.{known_in}
use Rattle.idl_interface.specs.Made.{value_said}
use Rattle.idl_interface.proofs.arms.labels_of.Given as goal

-- what is there, with what is left
abbrev pub invariant-loop-label : goal.invariant-loop-label
invariant-loop-label l =
    l.values.items ++ map (value_said (known_in l.scope)) (map seen_label (drop l.label-index l.labels))
    ≡ map (value_said (known_in l.scope)) (map seen_label l.labels)
