-- Octets that are written piece by piece.
-- `order` is the order of the stream, `numbering` has the numbers of cells, `at` is the place up to which `os` is written.
use Rattle.std.specs.Prelude.{◌≡◌, ℕ, ◌+◌, ◌<◌, ◌≤◌, ◌^◌, ℤ, true, List, [], ◌++◌, length, take}
use Rattle.std.specs.List.{AllByRecursion, flat_map}
use Rattle.nd_base.specs.declared.octets.Order.{Order}
use Rattle.nd_types.specs.declared.types.Primitive.{Primitive}
use Rattle.nd_types.specs.Table.{in_range}
use Rattle.nd_types.specs.Number.{written}
use Rattle.ndr_encoder_laws.specs.pieces.Pieces.{Piece, Gap, Figure, Raw, pieces_end, pieces_octets}
use Rattle.ndr_encoder_output.specs.Outputs.{Whole}

-- a piece can be written as it is
abbrev pub FitsPiece : Piece → Type 0
FitsPiece (Gap n) = 0 < n
FitsPiece (Figure p z) = in_range p z ≡ true
FitsPiece (Raw os) = length os + 1 < 2 ^ 32
FitsPiece x = Unit {0}

-- what is written so far, and these pieces
abbrev pub fill_whole : ℕ → Order → (ℕ → ℕ) → ℕ → List ℕ → List Piece → Whole
fill_whole lent order numbering at os ps =
    record { end = pieces_end at ps; octets = take at os ++ pieces_octets order numbering at ps; names = []; lent = lent; room = length os }

-- these pieces can be written, and there is room for them
abbrev pub FillCan : ℕ → List ℕ → List Piece → Type 0
FillCan at os ps = (pieces_end at ps ≤ length os) × AllByRecursion FitsPiece ps

-- the octets of numbers side by side
abbrev pub written_all : Order → Primitive → List ℤ → List ℕ
written_all order p zs = flat_map (written order p) zs
