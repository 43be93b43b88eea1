use Rattle.std.proofs.Common.{◌≡◌, drop}
use Rattle.nd_types.specs.Table.{selected}
use Rattle.nd_misfits.proofs.node.selected.Given as goal

abbrev pub invariant-loop-at : goal.invariant-loop-at
invariant-loop-at l = selected l.arms l.fn.default l.fn.tag ≡ selected (drop l.at l.arms) l.fn.default l.fn.tag
