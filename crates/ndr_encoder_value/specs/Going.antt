-- Whether a run goes on after a step.
use Rattle.std.specs.Prelude.{Bool, true, false, List, []}
use Rattle.ndr_encoder_laws.specs.pieces.Pieces.{Piece}

-- what is left to write: nothing where the run has ended
abbrev pub left : Bool → List Piece → List Piece
left true ps = ps
left false ps = []
