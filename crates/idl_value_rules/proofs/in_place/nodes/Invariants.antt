use Rattle.std.proofs.Common.{◌≡◌, List, map, take, length}
use Rattle.idl_declared_types.specs.declared.kinds.Kind.{Kind}
use Rattle.idl_declared_types.specs.Kinds.{type_at}
use Rattle.idl_declared_types.specs.InPlace.{AreHeld}
use Rattle.idl_value_rules.proofs.in_place.nodes.Given as goal

-- the types so far
abbrev pub invariant-loop-number : goal.invariant-loop-number
invariant-loop-number l = (ks : List Kind) → length ks ≡ l.count → AreHeld ks l.count l.held.items (map (type_at ks) (take l.number-index l.numbers))
