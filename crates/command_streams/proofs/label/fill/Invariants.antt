use Rattle.std.proofs.Common.{◌≡◌, ◌≤◌, ◌-◌, take, length}
use Rattle.std.specs.Io.KnownBytes.{Consumes}
use Rattle.command_streams.proofs.label.fill.Given as goal

abbrev pub invariant-loop-came : goal.invariant-loop-came
invariant-loop-came g l =
    (l.came ≤ 4)
    × (Consumes (g.S.Source.seen l.initial.input).left (g.S.Source.seen l.input).left (take l.came l.octets)
    × (((g.S.Source.seen l.initial.input).faults ≤ (g.S.Source.seen l.input).faults)
    × (length l.octets ≡ 4)))

abbrev pub decreases-loop-came : goal.decreases-loop-came
decreases-loop-came g l = 4 - l.came
