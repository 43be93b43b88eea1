-- What is written home by home: the value of each home by its run.
-- `code` is a plan's code, `g` a graph, `u` a home with the address of its run, `k` the greatest count of a chunk, `w` a setting, `n` the number of
-- its operation.
use Rattle.std.specs.Prelude.{ℕ, ◌+◌, suc, zero, List, [], ◌∷◌, ◌++◌, drop, length}
use Rattle.std.specs.List.{flat_map}
use Rattle.nd_types.specs.declared.types.Operation.{Operation}
use Rattle.nd_value.specs.declared.value.Graph.{Graph}
use Rattle.nd_value.specs.declared.item.Home.{Home}
use Rattle.nd_value.specs.declared.item.Home.TheVariants as home
use Rattle.nd_value.specs.Deferral.{Step, before_pipes}
use Rattle.nd_value.specs.Setting.{Setting, root_list, root_at, cell_at}
use Rattle.nd_value.specs.Tree.{Tree, none, more, flat}
use Rattle.nd_grammar.specs.Entry.{hoisted_max}
use Rattle.ndr_code.specs.declared.instr.Instr.{Instr}
use Rattle.ndr_code.specs.Code.{pipe_at}
use Rattle.ndr_encoder_laws.specs.pieces.Pieces.{Piece}
use Rattle.ndr_encoder_laws.specs.pieces.Heads.{standings}
use Rattle.ndr_encoder_laws.specs.written.Run.{run}
use Rattle.ndr_encoder_laws.specs.turns.Turned.{STEPS}
use Rattle.ndr_encoder_laws.specs.turns.Roots.{home_turns}

-- the value of a home
abbrev pub value_at : Graph → Home → Tree
value_at g (home.Root i) = root_at g i
value_at g (home.Cell c) = cell_at g c.0

-- the pieces that a run writes of a home
abbrev pub turn_pieces : List Instr → ℕ → Graph → Home × ℕ → List Piece
turn_pieces code k g u = run code (hoisted_max 0 (more (value_at g u.0) none)) k STEPS u.1 [] (flat (more (value_at g u.0) none))

abbrev pub turns_pieces : List Instr → ℕ → Graph → List (Home × ℕ) → List Piece
turns_pieces code k g us = flat_map (turn_pieces code k g) us

-- so many pipes, from the i-th on, each with the address of its run; the first of all is the root `first`
abbrev pub pipe_turns : (ℕ → ℕ) → ℕ → ℕ → ℕ → List (Home × ℕ)
pipe_turns at first i zero = []
pipe_turns at first i (suc m) = (home.Root (first + i), at i) ∷ pipe_turns at first (suc i) m

-- the homes of the steps of deferral, and then the pipes
abbrev pub all_turns : Setting → List Operation → ℕ → Graph → List Step → List (Home × ℕ)
all_turns w operations n g steps =
    home_turns w.table (standings w g steps)
    ++ pipe_turns (pipe_at w.table operations n w.op w.side) (before_pipes (root_list w)) 0 (length (drop (before_pipes (root_list w)) (root_list w)))
