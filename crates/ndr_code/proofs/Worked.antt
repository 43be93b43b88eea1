-- The plan of a small interface, instruction by instruction: it computes.
use Rattle.std.proofs.Common.{◌≡◌, false, [], ◌∷◌, None, refl}
use Rattle.nd_types.specs.declared.types.Attr.TheVariants.{Size}
use Rattle.nd_types.specs.declared.types.Class.TheVariants.{Ref}
use Rattle.nd_types.specs.declared.types.Way.TheVariants as way
use Rattle.nd_types.specs.declared.types.Side.TheVariants as side
use Rattle.nd_types.specs.Layout.{align_of, hoists}
use Rattle.nd_types.specs.Roots.{roots_of}
use Rattle.nd_types.specs.declared.types.Operation.{Operation}
use Rattle.nd_types.specs.declared.types.TypeDef.TheVariants.{Array}
use Rattle.nd_types.specs.Table.{Table}
use Rattle.nd_types.proofs.LegalExamples.{sums, taking, operation, param, with, by}
use Rattle.ndr_code.specs.declared.instr.Instr.TheVariants.{Void, Ret, Given, Align, Num, Context, Hoist, Call, Record, Check, Close, Conf, Pointer, Direct, Defer}
use Rattle.ndr_code.specs.Code.{code_of, id, whole_at, place_at, root_at, checks_at, side_at, side_code, entries_of, sides_of, line_at}
use Rattle.ndr_code.specs.declared.lists.PlanLine.TheVariants.{Entry, Checks}

-- the plan of one operation with a reference pointer to a struct that a conformant array of hypers ends
pub sums_plan : code_of sums (taking way.In 14 []) ≡
    Void ∷ Ret
    ∷ Num (id 0) ∷ Ret ∷ Num (id 1) ∷ Ret ∷ Num (id 2) ∷ Ret ∷ Num (id 3) ∷ Ret ∷ Num (id 4) ∷ Ret
    ∷ Align 2 ∷ Num (id 5) ∷ Ret ∷ Align 2 ∷ Num (id 6) ∷ Ret ∷ Align 4 ∷ Num (id 7) ∷ Ret ∷ Align 4 ∷ Num (id 8) ∷ Ret
    ∷ Align 8 ∷ Num (id 9) ∷ Ret ∷ Align 8 ∷ Num (id 10) ∷ Ret ∷ Align 4 ∷ Context ∷ Ret
    ∷ Hoist ∷ Call 36 ∷ Ret
    ∷ Align 8 ∷ Record 2 ∷ Call 12 ∷ Call 46 ∷ Check Size 1 0 false ∷ Close ∷ Ret
    ∷ Hoist ∷ Call 46 ∷ Ret ∷ Conf 24 ∷ Ret
    ∷ Align 4 ∷ Pointer Ref (id 12) 33 ∷ Ret
    ∷ Direct (id 12) 33 ∷ Defer ∷ Ret ∷ Ret ∷ Ret ∷ []
unfolding whole_at place_at align_of hoists roots_of
sums_plan = refl

pub sums_entry : root_at sums (taking way.In 14 []) 0 (operation (param way.In 14 [] ∷ []) None) side.In 0 ≡ 51
unfolding side_at whole_at place_at align_of hoists roots_of
sums_entry = refl

pub sums_checks_in : checks_at sums (taking way.In 14 []) 0 (operation (param way.In 14 [] ∷ []) None) side.In ≡ 54
unfolding side_at whole_at place_at align_of hoists roots_of
sums_checks_in = refl

pub sums_checks_out : checks_at sums (taking way.In 14 []) 0 (operation (param way.In 14 [] ∷ []) None) side.Out ≡ 55
unfolding side_at whole_at place_at align_of hoists roots_of
sums_checks_out = refl

-- its lines; the name of each parameter is `a`
pub sums_lines : entries_of sums (taking way.In 14 []) ≡ Entry 0 side.In (97 ∷ []) 51 ∷ Checks 0 side.In 54 ∷ Checks 0 side.Out 55 ∷ []
unfolding side_at whole_at place_at align_of hoists roots_of
sums_lines = refl

pub sums_starts : sides_of sums (taking way.In 14 []) ≡ 0 ∷ 2 ∷ []
unfolding line_at side_at whole_at place_at align_of hoists roots_of
sums_starts = refl

-- a response with an array whose size is a number of the request
abbrev pub sized : Table
sized = with (Array (id 2) None false ∷ [])

abbrev pub sized_operation : Operation
sized_operation = operation (param way.In 8 [] ∷ param way.Out 12 (by Size 0 ∷ []) ∷ []) None

pub sized_response : side_code sized sized_operation side.Out ≡ Call 33 ∷ Defer ∷ Ret ∷ Given Size 0 0 false ∷ Ret ∷ []
unfolding whole_at place_at align_of hoists roots_of
sized_response = refl

pub sized_lines : entries_of sized (sized_operation ∷ []) ≡
    Entry 0 side.In (97 ∷ []) 38 ∷ Checks 0 side.In 41 ∷ Entry 0 side.Out (97 ∷ []) 42 ∷ Checks 0 side.Out 45 ∷ []
unfolding side_at whole_at place_at align_of hoists roots_of
sized_lines = refl
