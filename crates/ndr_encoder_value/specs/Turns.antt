-- What is written home by home, where a maximum count is found when its run begins with one.
-- `code` is a plan's code, `g` a graph, `u` a home with the address of its run, `k` the greatest count of a chunk.
use Rattle.std.specs.Prelude.{ℕ, Bool, true, false, List, [], Option, Some, flat_map, map}
use Rattle.std.specs.List.{slice_get}
use Rattle.nd_value.specs.declared.value.Graph.{Graph}
use Rattle.nd_value.specs.declared.item.Home.{Home}
use Rattle.nd_value.specs.Tree.{none, more, flat}
use Rattle.nd_grammar.specs.Entry.{hoisted_max}
use Rattle.ndr_code.specs.declared.instr.Instr.{Instr}
use Rattle.ndr_code.specs.declared.instr.Instr.TheVariants as op
use Rattle.ndr_encoder_laws.specs.pieces.Pieces.{Piece}
use Rattle.ndr_encoder_laws.specs.written.Run.{run}
use Rattle.ndr_encoder_laws.specs.turns.Turned.{STEPS}
use Rattle.ndr_encoder_laws.specs.chosen.Written.{value_at}
use Rattle.ndr_encoder_value.specs.declared.turn.Turn.{Turn}

-- a turn as a pair
abbrev pub turn_pair : Turn → Home × ℕ
turn_pair t = (t.home, t.start)

abbrev pub turn_pairs : List Turn → List (Home × ℕ)
turn_pairs ts = map turn_pair ts

-- an instruction that writes a maximum count
abbrev pub is_hoist : Option Instr → Bool
is_hoist (Some op.Hoist) = true
is_hoist i = false

-- a maximum count where a run begins with one, else 0
abbrev pub max_by : Option Instr → ℕ → ℕ
max_by i m = elim (is_hoist i) [ true ↦ m | false ↦ 0 ]

abbrev pub max_of : List Instr → Graph → Home × ℕ → ℕ
max_of code g u = max_by (slice_get code u.1) (hoisted_max 0 (more (value_at g u.0) none))

-- the pieces of a home
abbrev pub written_turn : List Instr → ℕ → Graph → Home × ℕ → List Piece
written_turn code k g u = run code (max_of code g u) k STEPS u.1 [] (flat (more (value_at g u.0) none))

abbrev pub written_turns : List Instr → ℕ → Graph → List (Home × ℕ) → List Piece
written_turns code k g us = flat_map (written_turn code k g) us
