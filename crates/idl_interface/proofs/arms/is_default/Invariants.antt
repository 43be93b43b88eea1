use Rattle.std.proofs.Common.{◌≡◌, drop, is_none}
use Rattle.std.specs.List.{list_any}
use Rattle.idl_interface.proofs.arms.is_default.Given as goal

-- what is left says what all say
abbrev pub invariant-loop-label : goal.invariant-loop-label
invariant-loop-label l = list_any is_none (drop l.label-index l.labels) ≡ list_any is_none l.labels
