use Rattle.std.proofs.Common.{◌≡◌, ◌≤◌, ◌+◌, ◌-◌, ◌++◌, drop, length}
use Rattle.idl_names.specs.Walk as sources
use Rattle.idl_names.proofs.strings.string_value.Given as goal

abbrev pub invariant-loop-at : goal.invariant-loop-at
invariant-loop-at l = record {
  within : l.at ≤ length l.string + 1;
  is : sources.string_value l.string ≡ l.value.items ++ sources.before_quote (drop l.at l.string);
}

abbrev pub decreases-loop-at : goal.decreases-loop-at
decreases-loop-at l = length l.string - l.at
