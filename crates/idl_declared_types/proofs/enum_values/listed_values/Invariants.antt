use Rattle.std.proofs.Common.{map, take}
use Rattle.idl_scope.specs.Seen.{known_in}
use Rattle.idl_rule_definitions.specs.Nodes.{number_of}
use Rattle.idl_declared_types.specs.LabelValues.{Holds}
use Rattle.idl_declared_types.proofs.enum_values.listed_values.Given as goal

-- those before are there
abbrev pub invariant-loop-one : goal.invariant-loop-one
invariant-loop-one l = Holds l.set (map (λ e. number_of (known_in l.scope) e.name.octets) (take l.one-index l.list))
