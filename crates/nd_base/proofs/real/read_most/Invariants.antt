use Rattle.std.proofs.Common.{◌≡◌, ◌+◌, length}
use Rattle.std.specs.Io.KnownBytes.{Consumes}
use Rattle.nd_base.proofs.real.read_most.Given as goal

abbrev pub invariant-loop-free : goal.invariant-loop-free
invariant-loop-free g l =
    (length l.octets + l.free ≡ l.most)
    × Consumes (g.F.Read.remaining l.initial.file) (g.F.Read.remaining l.file) l.octets

abbrev pub decreases-loop-free : goal.decreases-loop-free
decreases-loop-free g l = l.free
