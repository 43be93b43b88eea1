-- What is counted home by home: the octets that a home has, and the cells that its pointers name. A maximum count has four octets whatever it is, so
-- 0 is taken for each.
-- `code` is a plan's code, `g` a graph, `u` a home with the address of its run, `k` the greatest count of a chunk.
use Rattle.std.specs.Prelude.{◌≡◌, ℕ, ◌+◌, ◌^◌, ◌<◌, ◌≤◌, List, [], length, flat_map}
use Rattle.std.specs.List.{AllByRecursion}
use Rattle.nd_value.specs.declared.value.Graph.{Graph}
use Rattle.nd_value.specs.declared.item.Home.{Home}
use Rattle.nd_value.specs.Tree.{none, more, flat}
use Rattle.nd_flat.specs.Building.{HasHome}
use Rattle.ndr_code.specs.declared.instr.Instr.{Instr}
use Rattle.ndr_encoder_laws.specs.pieces.Pieces.{Piece, pieces_end, pieces_names}
use Rattle.ndr_encoder_output.specs.Filling.{FitsPiece}
use Rattle.ndr_encoder_laws.specs.written.Run.{run}
use Rattle.ndr_encoder_laws.specs.turns.Turned.{STEPS}
use Rattle.ndr_encoder_laws.specs.chosen.Written.{value_at, turn_pieces}

-- the pieces that are counted of a home
abbrev pub counted_turn : List Instr → ℕ → Graph → Home × ℕ → List Piece
counted_turn code k g u = run code 0 k STEPS u.1 [] (flat (more (value_at g u.0) none))

abbrev pub counted_turns : List Instr → ℕ → Graph → List (Home × ℕ) → List Piece
counted_turns code k g us = flat_map (counted_turn code k g) us

-- cells of a graph, each with the address of a run
abbrev pub AreCells : Graph → List (ℕ × ℕ) → Type 0
AreCells g names = AllByRecursion (λ x. (0 < x.0) × (x.0 ≤ length g.cells)) names

-- A home can be counted: it is there, its pieces can be counted and end where those that are written end, they are not too many, and their pointers
-- name cells of the graph.
pub record IsCounted (code : List Instr) (k : ℕ) (g : Graph) (u : Home × ℕ) : Type 0 where
  pub there : HasHome g u.0
  pub fits : AllByRecursion FitsPiece (counted_turn code k g u)
  pub ends : (at : ℕ) → pieces_end at (counted_turn code k g u) ≡ pieces_end at (turn_pieces code k g u)
  pub short : (at : ℕ) → pieces_end at (counted_turn code k g u) ≤ at + 2 ^ 67
  pub cells : AreCells g (pieces_names (counted_turn code k g u))
