use Rattle.std.proofs.Common.{◌≡◌, ◌-◌, ◌≤◌, reverse}
use Rattle.nd_graph.specs.Naming.{root_homes}
use Rattle.nd_graph.proofs.order.roots.Given as goal

abbrev pub invariant-loop-at : goal.invariant-loop-at
invariant-loop-at l = record {
  within : l.at ≤ l.count;
  due : reverse l.due.items ≡ root_homes l.at (l.count - l.at);
}
