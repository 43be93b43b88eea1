-- Arrays of structs of numbers and pointers: the runs that write them, and what these write.
-- `x` is a member, `s` a struct, `a` a multiple to which a gap leads, `at`, `run` and `start` are addresses, `m` is the maximum count before a home,
-- `fs` are the nodes to come.
use Rattle.std.specs.Prelude.{◌≡◌, ◌⊎◌, ℕ, ◌+◌, zero, suc, false, ◌==◌, List, [], ◌∷◌, ◌++◌, length, Some}
use Rattle.std.specs.List.{slice_get}
use Rattle.nd_value.specs.Tree.{Flat}
use Rattle.ndr_code.specs.declared.instr.Instr.{Instr}
use Rattle.ndr_code.specs.declared.instr.Instr.TheVariants as op
use Rattle.ndr_encoder_laws.specs.pieces.Pieces.{Piece, Gap, four}
use Rattle.ndr_encoder_laws.specs.written.Run.{here, later, after}
use Rattle.ndr_encoder_output.specs.declared.members.Member.{Member}
use Rattle.ndr_encoder_output.specs.declared.members.StructRun.{StructRun}
use Rattle.ndr_encoder_output.specs.Structs.{member_gap, members_of, struct_pieces, IsMember}

-- ## The code

-- a member without its gap, and the end of its run
abbrev pub EndsMember : List Instr → ℕ → Member → Type 0
EndsMember code at x = IsMember (slice_get code at) x × (slice_get code (at + 1) ≡ Some op.Ret)

-- the run of a member: its own gap, which is left out for 1, and the member
abbrev pub IsMemberRun : List Instr → ℕ → Member → Type 0
IsMemberRun code run x =
    ((member_gap x ≡ 1) × EndsMember code run x)
    ⊎ (((member_gap x == 1) ≡ false) × ((slice_get code run ≡ Some (op.Align (member_gap x))) × EndsMember code (run + 1) x))

-- such a run is called
abbrev pub CallsMember : List Instr → ℕ → Member → Type 0
CallsMember code at x = (run : ℕ) × ((slice_get code at ≡ Some (op.Call run)) × IsMemberRun code run x)

-- these members are called, one after the other
abbrev pub CallMembers : List Instr → ℕ → List Member → Type 0
CallMembers code at [] = Unit {0}
CallMembers code at (x ∷ xs) = CallsMember code at x × CallMembers code (at + 1) xs

abbrev pub HasRecord : List Instr → ℕ → Type 0
HasRecord code at = (n : ℕ) × (slice_get code at ≡ Some (op.Record n))

-- a struct begins: its gap, which is left out for 1, and its node; its members are called from the address `at` on
abbrev pub Begins : List Instr → ℕ → ℕ → ℕ → Type 0
Begins code run a at =
    ((a ≡ 1) × ((at ≡ run + 1) × HasRecord code run))
    ⊎ (((a == 1) ≡ false) × ((at ≡ run + 2) × ((slice_get code run ≡ Some (op.Align a)) × HasRecord code (run + 1))))

-- the run of an element is this struct
pub record IsElementRun (code : List Instr) (run : ℕ) (s : StructRun) : Type 0 where
  pub at : ℕ
  pub begins : Begins code run s.align at
  pub members : CallMembers code at (members_of s)
  pub closes : slice_get code (at + length (members_of s)) ≡ Some op.Close
  pub ends : slice_get code (at + length (members_of s) + 1) ≡ Some op.Ret

-- the run of a home is a conformant array with elements by a run
pub record IsArrayRun (code : List Instr) (start run : ℕ) : Type 0 where
  pub place : ℕ
  pub hoists : slice_get code start ≡ Some op.Hoist
  pub calls : slice_get code (start + 1) ≡ Some (op.Call place)
  pub ends : slice_get code (start + 2) ≡ Some op.Ret
  pub array : slice_get code place ≡ Some (op.Conf run)
  pub array_ends : slice_get code (place + 1) ≡ Some op.Ret
  -- elements come after the instruction at address 1
  pub ret : slice_get code 1 ≡ Some op.Ret

-- ## What is written

-- so many structs, each of a node of its own and those of its members
abbrev pub elements_pieces : StructRun → ℕ → List Flat → List Piece
elements_pieces s zero fs = []
elements_pieces s (suc n) fs = struct_pieces s fs ++ elements_pieces s n (after (length (members_of s)) (later fs))

-- the maximum count, and the elements
abbrev pub array_pieces : ℕ → StructRun → List Flat → List Piece
array_pieces m s fs = Gap 4 ∷ four m ∷ elements_pieces s (here fs).1 (later fs)
