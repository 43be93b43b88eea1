use Rattle.std.proofs.Common.{◌≡◌, ◌≤◌, drop, map, max}
use Rattle.nd_types.specs.Layout.{largest}
use Rattle.nd_types.specs.Rounds.{align_in}
use Rattle.nd_types.proofs.layouts.members_align.Given as goal

-- what is known of those before, with what is left
abbrev pub invariant-loop-member : goal.invariant-loop-member
invariant-loop-member l = record {
  some : 1 ≤ l.align;
  all : max l.align (largest (map (λ f. align_in l.layouts f.of.0) (drop l.member-index l.members))) ≡ largest (map (λ f. align_in l.layouts f.of.0) l.members);
}
