use Rattle.std.proofs.Common.{◌≡◌, length}
use Rattle.idl_cycles.specs.GraphRounds.{IsRound}
use Rattle.idl_cycles.proofs.graph.rounds.round.Given as goal

abbrev pub invariant-loop-node : goal.invariant-loop-node
invariant-loop-node l = (length l.next ≡ length l.rules) × IsRound l.graph l.rules l.values l.node l.next
