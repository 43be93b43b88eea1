use Rattle.std.proofs.Common.{◌≡◌, ◌≤◌, ◌+◌, length}
use Rattle.std.specs.Io.KnownBytes.{Consumes}
use Rattle.nd_base.proofs.intake.Intake.fetch.Given as goal

abbrev pub invariant-loop-lacking : goal.invariant-loop-lacking
invariant-loop-lacking g l =
    (length l.self + l.lacking ≡ l.count)
    × (Consumes (g.S.Source.seen l.initial.source).left (g.S.Source.seen l.source).left l.self
    × ((g.S.Source.seen l.initial.source).faults ≤ (g.S.Source.seen l.source).faults))

abbrev pub decreases-loop-lacking : goal.decreases-loop-lacking
decreases-loop-lacking g l = l.lacking
