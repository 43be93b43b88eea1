use Rattle.std.proofs.Common.{◌≡◌, ◌≤◌, ◌+◌, ◌*◌, ◌-◌, ◌^◌, length, drop}
use Rattle.library_nodes.specs.Parts.{skip}
use Rattle.library_nodes.proofs.parts.skip.Given as goal

abbrev pub invariant-loop-due : goal.invariant-loop-due
invariant-loop-due l = record {
  within : l.at ≤ length l.nodes;
  skipped : skip l.due (drop l.at l.nodes) ≡ skip l.many (drop l.from l.nodes);
  few : l.due ≤ 2 ^ 32 + l.at * 2 ^ 32;
}

abbrev pub decreases-loop-due : goal.decreases-loop-due
decreases-loop-due l = length l.nodes - l.at
