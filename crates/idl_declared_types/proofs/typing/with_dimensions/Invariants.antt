use Rattle.std.proofs.Common.{◌≡◌, ◌<◌, ◌-◌, drop, length, map, option_map}
use Rattle.idl_grammar.specs.Seen.{seen_bound}
use Rattle.idl_scope.specs.Seen.{known_in}
use Rattle.idl_rule_definitions.specs.Types.{with_dimensions}
use Rattle.idl_declared_types.specs.Kinds.{type_at, Keeps}
use Rattle.idl_declared_types.proofs.typing.with_dimensions.Given as goal

abbrev pub invariant-loop-done : goal.invariant-loop-done
invariant-loop-done l = record {
  within : l.element < length l.kinds;
  keeps : Keeps l.fn.kinds l.kinds;
  is : type_at l.kinds l.element
      ≡ with_dimensions (known_in l.scope) (type_at l.fn.kinds l.fn.of) (map (option_map seen_bound) (drop (length l.dimensions - l.done) l.dimensions));
}
