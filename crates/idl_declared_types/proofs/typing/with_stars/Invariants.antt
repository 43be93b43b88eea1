use Rattle.std.proofs.Common.{◌≡◌, ◌<◌, drop, length}
use Rattle.idl_rule_definitions.specs.Types.{with_stars}
use Rattle.idl_declared_types.specs.Kinds.{seen_class, type_at, Keeps}
use Rattle.idl_declared_types.proofs.typing.with_stars.Given as goal

abbrev pub invariant-loop-index : goal.invariant-loop-index
invariant-loop-index l = record {
  within : l.to < length l.kinds;
  keeps : Keeps l.fn.kinds l.kinds;
  same : with_stars (seen_class l.default) (seen_class l.outermost) (type_at l.fn.kinds l.fn.of) l.stars
      ≡ with_stars (seen_class l.default) (seen_class l.outermost) (type_at l.kinds l.to) (drop l.index l.stars);
}
