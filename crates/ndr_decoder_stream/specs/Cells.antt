-- What contracts see of what is kept of cells.
use Rattle.std.specs.Prelude.{List, Option}
use Rattle.ndr_decoder_laws.specs.declared.kept.Kept.{Kept}

-- of each cell, by its number less one, what is kept of it, if it was read
pub record CellsSeen : Type 0 where
  pub items : List (Option Kept)
