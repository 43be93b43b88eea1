-- Elements of an array that are structs of numbers, read in one go.
-- `ps` are the members of a struct by their primitives, `at` is a place, `count` how many elements there are, `len` how many octets they have, `s`
-- is a state.
use Rattle.std.specs.Prelude.{◌≡◌, ◌≤◌, ◌<◌, ℕ, ◌+◌, ◌-◌, ◌%◌, List, length, map}
use Rattle.nd_base.specs.declared.TheConstants.{STREAM_LIMIT, PIECE}
use Rattle.nd_types.specs.declared.types.Primitive.{Primitive}
use Rattle.nd_types.specs.Table.{width}
use Rattle.nd_flat.specs.Records.{widest_from, records_len}
use Rattle.ndr_code.specs.declared.instr.Instr.{Instr}
use Rattle.ndr_decoder_laws.specs.declared.frame.Frame.{Frame}
use Rattle.ndr_decoder_laws.specs.declared.frame.Frame.TheVariants as frame
use Rattle.ndr_decoder_laws.specs.steps.Steps.{State}
use Rattle.ndr_decoder_laws.specs.runs.Rows.{HasLeft}
use Rattle.ndr_decoder_laws.specs.runs.Records.{Slot, IsRecordRun}

-- a member begins at a multiple of its width
abbrev pub slot_of : Primitive → Slot
slot_of p = record { to = width p; prim = p }

abbrev pub slots_of : List Primitive → List Slot
slots_of ps = map slot_of ps

-- the run of an array's elements is the struct of these members, after a gap to a multiple of the width of the widest
abbrev pub IsElementRun : List Instr → ℕ → List Primitive → Frame → Type 0
IsElementRun code pc ps (frame.Elements left run back) = IsRecordRun code run pc (widest_from 1 ps) (slots_of ps)
IsElementRun code pc ps f = ⊥

-- so many elements, two at least, have so many octets, which fit into a piece and within the limit of a stream; the first begins at a multiple of the
-- width of the widest member
pub record HaveRoom (at : ℕ) (ps : List Primitive) (count len : ℕ) : Type 0 where
  pub members : 0 < length ps
  pub aligned : at % widest_from 1 ps ≡ 0
  pub some : 1 < count
  pub len_is : len ≡ records_len ps count
  pub piece : len ≤ PIECE
  pub limit : at + len ≤ STREAM_LIMIT

-- so many elements can be read in one go
pub record AreElements (code : List Instr) (s : State) (ps : List Primitive) (count len : ℕ) : Type 0 where
  pub run : IsElementRun code s.pc ps s.top
  pub level : length s.firsts ≡ length s.members
  pub left : HasLeft (count - 1) s.top
  pub room : HaveRoom s.at ps count len
