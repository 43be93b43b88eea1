-- The pieces of a stream, home by home.
-- `w` is a setting, `g` a graph, `x` a value as a whole, `r` a root, `v` its value, `cut` are the counts of a pipe.
use Rattle.std.specs.Prelude.{List, [], ◌∷◌, ◌++◌, drop, ℕ}
use Rattle.nd_types.specs.Table.{Table, type_at}
use Rattle.nd_types.specs.Roots.{Root}
use Rattle.nd_value.specs.declared.value.Graph.{Graph}
use Rattle.nd_value.specs.Tree.{Tree}
use Rattle.nd_value.specs.Setting.{Setting, root_list}
use Rattle.nd_value.specs.Deferral.{Step, root_stands, referent_stands, stands_already, Standing, standing_root, standing_cell, before_pipes}
use Rattle.nd_grammar.specs.Stream.{standing_entries}
use Rattle.ndr_encoder_laws.specs.pieces.Pieces.{Piece}
use Rattle.ndr_encoder_laws.specs.pieces.Shown.{shown, pipe_pieces}

-- the values that are written by these steps, in their order: roots, and referents after them
abbrev pub standings : Setting → Graph → List Step → List Standing
standings w g [] = []
standings w g (root_stands i ∷ steps) = standing_root w g i ∷ standings w g steps
standings w g (referent_stands p c ∷ steps) = standing_cell g p c ∷ standings w g steps
standings w g (stands_already p c ∷ steps) = standings w g steps

-- their pieces
abbrev pub homes_pieces : Table → List Standing → List Piece
homes_pieces table [] = []
homes_pieces table (x ∷ xs) = shown table (standing_entries table x) ++ homes_pieces table xs

-- the pieces of pipes, each cut by its own counts
abbrev pub pipes_pieces : Table → List Root → List Tree → List (List ℕ) → List Piece
pipes_pieces table (r ∷ rs) (v ∷ vs) (cut ∷ cuts) = pipe_pieces table (type_at table r.of) cut v ++ pipes_pieces table rs vs cuts
pipes_pieces table _ _ _ = []

-- the pieces of a whole stream
abbrev pub stream_pieces : Setting → Graph → List Step → List (List ℕ) → List Piece
stream_pieces w g steps cuts =
    homes_pieces w.table (standings w g steps)
    ++ pipes_pieces w.table (drop (before_pipes (root_list w)) (root_list w)) (drop (before_pipes (root_list w)) g.roots) cuts
