use Rattle.std.proofs.Common.{◌≡◌, ◌-◌, ◌≤◌, ◌++◌, List}
use Rattle.nd_value.specs.Tree.{flat}
use Rattle.ndr_encoder_laws.specs.pieces.Pieces.{Piece, row_pieces}
use Rattle.ndr_encoder_output.specs.Outputs.{Moves}
use Rattle.ndr_encoder_laws.specs.written.Run.{numbers, after}
use Rattle.ndr_encoder_value.proofs.numbers.write_numbers.Given as goal

abbrev pub invariant-loop-turn : goal.invariant-loop-turn
invariant-loop-turn g l = record {
  few : l.left ≤ l.count - l._turn;
  written : (qs : List Piece) → Moves g.O.Output.can g.O.Output.whole l.initial.out l.out
      (row_pieces l.prim (numbers l.count (flat l.initial.walk)) ++ qs) (row_pieces l.prim (numbers l.left (flat l.walk)) ++ qs);
  rest : after l.left (flat l.walk) ≡ after l.count (flat l.initial.walk);
}
