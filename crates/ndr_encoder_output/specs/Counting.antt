-- Octets that are counted, and names that are kept.
use Rattle.std.specs.Prelude.{ℕ, ◌<◌, ◌^◌, List, [], ◌++◌, map}
use Rattle.std.specs.List.{AllByRecursion}
use Rattle.ndr_encoder_output.specs.declared.count.Named.{Named}
use Rattle.ndr_encoder_laws.specs.pieces.Pieces.{Piece, pieces_end, pieces_names}
use Rattle.ndr_encoder_output.specs.Outputs.{Whole}
use Rattle.ndr_encoder_output.specs.Filling.{FitsPiece}

-- the cells that are named, as numbers, each with the address of its whole run
abbrev pub names_of : List Named → List (ℕ × ℕ)
names_of names = map (λ d. (d.cell.0, d.run)) names

abbrev pub count_whole : ℕ → List (ℕ × ℕ) → List Piece → Whole
count_whole at names ps = record { end = pieces_end at ps; octets = []; names = names ++ pieces_names ps; lent = 0; room = 0 }

abbrev pub CountCan : ℕ → List Piece → Type 0
CountCan at ps = (pieces_end at ps < 2 ^ 128) × AllByRecursion FitsPiece ps
