-- Structs of numbers and pointers, whose members are written one after the other: what their runs write, and how far such a run is followed.
-- `x` is a member, `s` a struct, `at` an address, `m` the maximum count before a home, `k` the greatest count of a chunk, `n` how many steps may be
-- taken, `fs` are the nodes to come, `G` is what is written from there on.
use Rattle.std.specs.Prelude.{◌≡◌, ℕ, ◌+◌, ◌*◌, ◌≤◌, List, [], ◌∷◌, ◌++◌, length, take, Option, Some}
use Rattle.std.specs.List.{AllByRecursion}
use Rattle.nd_types.specs.Table.{width}
use Rattle.nd_value.specs.Tree.{Flat, cell_in}
use Rattle.ndr_code.specs.declared.instr.Instr.{Instr}
use Rattle.ndr_encoder_laws.specs.pieces.Pieces.{Piece, Figure, Name, gap_pieces}
use Rattle.ndr_encoder_laws.specs.declared.frames.Frame.{Frame}
use Rattle.ndr_encoder_laws.specs.declared.frames.Frame.TheVariants.{Call}
use Rattle.ndr_encoder_laws.specs.written.Run.{Rest, here, later, num_in, after, stepped, run}
use Rattle.ndr_encoder_output.specs.declared.members.Member.{Member}
use Rattle.ndr_encoder_output.specs.declared.members.Member.TheVariants.{Number, Pointer}
use Rattle.ndr_encoder_output.specs.declared.members.StructRun.{StructRun}
use Rattle.ndr_encoder_output.specs.declared.known.Slot.{Slot}
use Rattle.ndr_encoder_output.specs.declared.known.Known.{Known}

-- ## What is written

-- the multiple to which the gap before a member leads, and the member itself
abbrev pub member_gap : Member → ℕ
member_gap (Number p) = width p
member_gap (Pointer a) = 4

abbrev pub member_piece : Member → Flat → Piece
member_piece (Number p) f = Figure p (num_in f.0)
member_piece (Pointer a) f = Name (cell_in f.0) a

abbrev pub member_pieces : Member → Flat → List Piece
member_pieces x f = gap_pieces (member_gap x) ++ member_piece x f ∷ []

-- members, each of its node
abbrev pub members_pieces : List Member → List Flat → List Piece
members_pieces [] fs = []
members_pieces (x ∷ xs) fs = member_pieces x (here fs) ++ members_pieces xs (later fs)

abbrev pub members_of : StructRun → List Member
members_of s = take s.count s.members

-- a struct: its gap, then its members; a node of its own is before theirs, and has no octets
abbrev pub struct_pieces : StructRun → List Flat → List Piece
struct_pieces s fs = gap_pieces s.align ++ members_pieces (members_of s) (later fs)

-- ## How a run is followed

-- an instruction writes a member, without its gap
abbrev pub IsMember : Option Instr → Member → Type 0
IsMember i x =
    (G : Rest) (code : List Instr) (m k at : ℕ) (frames : List Frame) (fs : List Flat)
    → stepped G code m k at frames fs i ≡ member_piece x (here fs) ∷ G (at + 1) frames (later fs)

-- an instruction passes the node of a struct
abbrev pub IsNode : Option Instr → Type 0
IsNode i =
    (G : Rest) (code : List Instr) (m k at : ℕ) (frames : List Frame) (fs : List Flat)
    → stepped G code m k at frames fs i ≡ G (at + 1) frames (later fs)

-- in some steps, at most so many, a run comes to this
pub record Comes (code : List Instr) (at : ℕ) (frames : List Frame) (most : ℕ) (written : Rest → List Flat → List Piece) : Type 0 where
  pub steps : ℕ
  pub few : steps ≤ most
  pub same : (m k n : ℕ) (fs : List Flat) → run code m k (steps + n) at frames fs ≡ written (run code m k n) fs

-- a run that is called writes a member, and goes back
abbrev pub IsMemberRun : List Instr → ℕ → Member → Type 0
IsMemberRun code at x = (to : ℕ) → Comes code at (Call to ∷ []) 3 (λ G fs. member_pieces x (here fs) ++ G to [] (later fs))

-- such a run is called
abbrev pub IsMemberCall : List Instr → ℕ → Member → Type 0
IsMemberCall code at x = Comes code at [] 4 (λ G fs. member_pieces x (here fs) ++ G (at + 1) [] (later fs))

-- a run begins with the gap of a struct, its node and these members, and is at an address then
abbrev pub HasBegun : List Instr → ℕ → ℕ → ℕ → List Member → Type 0
HasBegun code start at align xs =
    Comes code start [] (2 + 4 * length xs) (λ G fs. gap_pieces align ++ (members_pieces xs (later fs) ++ G at [] (after (length xs) (later fs))))

-- a run ends, within two steps, and within three where agreements come first
abbrev pub HasClosed : List Instr → ℕ → Type 0
HasClosed code at = Comes code at [] 2 (λ G fs. [])

abbrev pub HasEnded : List Instr → ℕ → Type 0
HasEnded code at = Comes code at [] 3 (λ G fs. [])

-- ## Whole runs

-- how many steps the run of such a struct takes at most
abbrev pub STRUCT_STEPS : ℕ
STRUCT_STEPS = 64

-- the run at an address writes a struct, and nothing else
pub record IsStructRun (code : List Instr) (start : ℕ) (s : StructRun) : Type 0 where
  pub whole : s.count ≤ length s.members
  pub writes : (m k n : ℕ) (fs : List Flat) → STRUCT_STEPS ≤ n → run code m k n start [] fs ≡ struct_pieces s fs

-- the struct that is known of a run, if one is, is what the run writes
abbrev pub IsRight : List Instr → Slot → Type 0
IsRight code slot = (s : StructRun) → slot.of ≡ Some s → IsStructRun code slot.start s

abbrev pub AreKnown : List Instr → Known → Type 0
AreKnown code known = AllByRecursion (IsRight code) known.slots
