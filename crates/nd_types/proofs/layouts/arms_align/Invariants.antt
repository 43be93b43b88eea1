use Rattle.std.proofs.Common.{◌≡◌, ◌≤◌, drop, max}
use Rattle.nd_types.specs.Rounds.{align_in}
use Rattle.nd_types.proofs.Largest.{arms_largest}
use Rattle.nd_types.proofs.layouts.arms_align.Given as goal

-- what is known of those before, with what is left
abbrev pub invariant-loop-arm : goal.invariant-loop-arm
invariant-loop-arm l = record {
  some : 1 ≤ l.align;
  all : max l.align (arms_largest (align_in l.layouts) (drop l.arm-index l.arms)) ≡ arms_largest (align_in l.layouts) l.arms;
}
