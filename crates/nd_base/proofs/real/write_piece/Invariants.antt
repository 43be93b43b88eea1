use Rattle.std.proofs.Common.{◌≤◌, length, take}
use Rattle.std.specs.Io.KnownBytes.{Appends}
use Rattle.nd_base.proofs.real.write_piece.Given as goal

abbrev pub invariant-loop : goal.invariant-loop
invariant-loop g l =
    Appends (g.W.Write.contents l.initial.inner) (g.W.Write.contents l.inner) (take l.done l.piece)
    × (l.done ≤ length l.piece)
