use Rattle.std.proofs.Common.{drop}
use Rattle.ndr_encoder_output.specs.Outputs.{Moves}
use Rattle.ndr_encoder_output.specs.Structs.{AreKnown}
use Rattle.ndr_encoder_value.specs.Turns.{turn_pairs, written_turns}
use Rattle.ndr_encoder_value.proofs.homes.write_turns.Given as goal

abbrev pub invariant-loop-turn : goal.invariant-loop-turn
invariant-loop-turn g l = record {
  written : Moves g.O.Output.can g.O.Output.whole l.initial.out l.out (written_turns l.code l.chunk l.fit.graph (turn_pairs l.turns))
      (written_turns l.code l.chunk l.fit.graph (turn_pairs (drop l.turn-index l.turns)));
  known : AreKnown l.code l.known;
}
