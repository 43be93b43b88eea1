-- What is prepared for the encoding of a graph: the homes in the order of the stream, each with the address of its run, and the numbers of the cells.
-- `f` is a fit, `o` its operation, `k` the greatest count of a chunk.
use Rattle.std.specs.Prelude.{◌≡◌, ℕ, ◌≤◌, ◌<◌, List, [], drop, slice_index_or, length, Some, refl}
use Rattle.std.specs.List.{slice_get}
use Rattle.std.specs.Coded.{Coded, code_by, coded×, coded_list, coded_ℕ}
use Rattle.nd_base.specs.declared.TheConstants.{STREAM_LIMIT}
use Rattle.nd_base.specs.declared.octets.Order.{Order}
use Rattle.nd_types.specs.declared.types.Operation.{Operation}
use Rattle.nd_value.specs.Canon.{canonical_number, named_cells}
use Rattle.nd_value.specs.Deferral.{Step, Deferral, due_roots, before_pipes}
use Rattle.nd_value.specs.Fitting.{Fitting, setting_beside}
use Rattle.nd_value.specs.Setting.{Setting, root_list}
use Rattle.nd_grammar.specs.Entry.{end_of}
use Rattle.nd_grammar.specs.Stream.{representation, pipe_cuts, Chosen}
use Rattle.ndr_encoder_laws.specs.chosen.Written.{all_turns}
use Rattle.ndr_encoder_value.specs.declared.turn.Turn.{Turn}
use Rattle.ndr_encoder_value.specs.contracts.turn.Turn as turns
use Rattle.ndr_encoder_value.specs.Turns.{turn_pairs}

-- what a work is seen as
pub record WorkSeen : Type 0 where
  pub turns : List Turn
  pub numbers : List ℕ
  pub length : ℕ
  pub chunk : ℕ

abbrev pub work_code : Coded WorkSeen
work_code =
    code_by (List Turn × (List ℕ × (ℕ × ℕ))) (coded× (coded_list turns.the_row.coded) (coded× (coded_list coded_ℕ) (coded× coded_ℕ coded_ℕ)))
    (λ w. (w.turns, (w.numbers, (w.length, w.chunk)))) (λ p. record { turns = p.0; numbers = p.1.0; length = p.1.1.0; chunk = p.1.1.1 }) (λ _. refl)

-- the setting of a fit
abbrev pub setting : Fitting → Operation → Setting
setting f o = setting_beside f.interface o f.side f.given

-- where the entries of a fit end, which does not depend on the order of octets
abbrev pub chosen_length : Fitting → Operation → ℕ → List Step → ℕ
chosen_length f o k steps =
    end_of 0 (representation (setting f o) f.graph steps (pipe_cuts k (drop (before_pipes (root_list (setting f o))) f.graph.roots)))

-- What `encode_with` needs of a work for a fit, with chunks of k elements, at least one: the values as a whole in the order of deferral, then the
-- pipes, each by the run of its type; the cells by their numbers in the order of the stream; and where the entries end, which is within the limit of
-- a stream.
pub record IsWorkFor (f : Fitting) (k : ℕ) (work : WorkSeen) : Type 0 where
  pub operation : Operation
  pub is_there : slice_get f.interface.operations f.op ≡ Some operation
  pub steps : List Step
  pub deferral : Deferral (setting f operation) f.graph [] (due_roots 0 (before_pipes (root_list (setting f operation)))) steps
  pub turns : turn_pairs work.turns ≡ all_turns (setting f operation) f.interface.operations f.op f.graph steps
  pub numbers : (c : ℕ) → slice_index_or work.numbers c 0 ≡ canonical_number (named_cells (setting f operation) f.graph steps) c
  pub some : 1 ≤ k
  pub chunk : work.chunk ≡ k
  pub length : work.length ≡ chosen_length f operation k steps
  pub within : work.length ≤ STREAM_LIMIT

-- the octets that are chosen for a fit, with chunks of k elements
abbrev pub IsChosen : Fitting → Order → ℕ → List ℕ → Type 0
IsChosen f order k octets = (o : Operation) → slice_get f.interface.operations f.op ≡ Some o → Chosen (setting f o) order k f.graph octets

-- so many octets are chosen for a fit, in either order
abbrev pub AreSoMany : Fitting → ℕ → ℕ → Type 0
AreSoMany f k n = (order : Order) (octets : List ℕ) → IsChosen f order k octets → length octets ≡ n

-- so many octets are chosen for a fit, and a stream may have as many
pub record HasLength (f : Fitting) (k n : ℕ) : Type 0 where
  pub many : AreSoMany f k n
  pub within : n ≤ STREAM_LIMIT

-- so many octets are chosen for a fit, and these are more than a stream may have
pub record IsTooLong (f : Fitting) (k n : ℕ) : Type 0 where
  pub many : AreSoMany f k n
  pub too_long : STREAM_LIMIT < n
