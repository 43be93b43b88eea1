use Rattle.std.proofs.Common.{◌≡◌}
use Rattle.nd_types.specs.Roots.{params_left}
use Rattle.nd_types.proofs.walk.SideRoots.next_param.Given as goal

abbrev pub invariant-loop-at : goal.invariant-loop-at
invariant-loop-at l =
    params_left l.self.types.now l.self.side l.self.operation.now l.pipes l.fn.from
    ≡ params_left l.self.types.now l.self.side l.self.operation.now l.pipes l.at
