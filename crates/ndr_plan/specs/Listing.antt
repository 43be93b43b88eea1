-- The listing of a plan: a line for each instruction with its address, one for each enumerated type, one for each entry and each run of agreements.
-- How the lines look is this project's own choice.
use Rattle.std.specs.Prelude.{ℕ, Bool, true, false, List, [], ◌∷◌, ◌++◌, map, codes, decimal}
use Rattle.std.specs.List.{flat_map, enumerate_from}
use Rattle.std.specs.Fmt.{signed_decimal}
use Rattle.nd_types.specs.declared.types.Attr.{Attr}
use Rattle.nd_types.specs.declared.types.Attr.TheVariants as attr
use Rattle.idl_listing.specs.Listing.{line, class_word, side_word}
use Rattle.ndr_code.specs.declared.instr.Instr.{Instr}
use Rattle.ndr_code.specs.declared.instr.Instr.TheVariants as op
use Rattle.ndr_code.specs.declared.lists.PlanLine.{PlanLine}
use Rattle.ndr_code.specs.declared.lists.PlanLine.TheVariants as place
use Rattle.ndr_code.specs.declared.lists.EnumList.{EnumList}

-- the word of an attribute
abbrev pub attr_word : Attr → List ℕ
attr_word attr.Size = codes "size"
attr_word attr.Max = codes "max"
attr_word attr.First = codes "first"
attr_word attr.Length = codes "length"
attr_word attr.Last = codes "last"
attr_word attr.Switch = codes "switch"

-- 1 where the variable is what a root points to
abbrev pub star_digit : Bool → ℕ
star_digit true = 1
star_digit false = 0

-- the operands of an agreement: ATTR F V S
abbrev pub check_words : Attr → ℕ → ℕ → Bool → List (List ℕ)
check_words a field var star = attr_word a ∷ decimal field ∷ decimal var ∷ decimal (star_digit star) ∷ []

-- an instruction: its name, then its operands
abbrev pub instr_words : Instr → List (List ℕ)
instr_words op.Void = codes "void" ∷ []
instr_words op.Ret = codes "ret" ∷ []
instr_words (op.Align to) = codes "align" ∷ decimal to ∷ []
instr_words (op.Num of) = codes "num" ∷ decimal of.0 ∷ []
instr_words (op.Enum of) = codes "enum" ∷ decimal of.0 ∷ []
instr_words (op.Record members) = codes "record" ∷ decimal members ∷ []
instr_words op.Close = codes "close" ∷ []
instr_words (op.Fixed count run) = codes "fixed" ∷ decimal count ∷ decimal run ∷ []
instr_words (op.Conf run) = codes "conf" ∷ decimal run ∷ []
instr_words (op.Vary bound run) = codes "vary" ∷ decimal bound ∷ decimal run ∷ []
instr_words (op.Confvary run) = codes "confvary" ∷ decimal run ∷ []
instr_words (op.Text bound) = codes "text" ∷ decimal bound ∷ []
instr_words op.Hoist = codes "hoist" ∷ []
instr_words (op.Tag of) = codes "tag" ∷ decimal of.0 ∷ []
instr_words (op.Arm label run) = codes "arm" ∷ signed_decimal label ∷ decimal run ∷ []
instr_words (op.Other run) = codes "other" ∷ decimal run ∷ []
instr_words op.Noarm = codes "noarm" ∷ []
instr_words (op.Pointer class to run) = codes "pointer" ∷ class_word class ∷ decimal to.0 ∷ decimal run ∷ []
instr_words (op.Direct to run) = codes "direct" ∷ decimal to.0 ∷ decimal run ∷ []
instr_words op.Context = codes "context" ∷ []
instr_words (op.Check a field var star) = codes "check" ∷ check_words a field var star
instr_words (op.Given a field var star) = codes "given" ∷ check_words a field var star
instr_words (op.Pipe run) = codes "pipe" ∷ decimal run ∷ []
instr_words op.Defer = codes "defer" ∷ []
instr_words (op.Call run) = codes "call" ∷ decimal run ∷ []

-- ADDRESS NAME OPERANDS
abbrev pub instr_line : ℕ × Instr → List ℕ
instr_line e = line (decimal e.0 ∷ instr_words e.1)

-- values T and the values
abbrev pub values_line : EnumList → List ℕ
values_line e = line (codes "values" ∷ decimal e.of.0 ∷ map signed_decimal e.values)

-- entry OP SIDE NAME ADDRESS, checks OP SIDE ADDRESS
abbrev pub place_line : PlanLine → List ℕ
place_line (place.Entry n s name at) = line (codes "entry" ∷ decimal n ∷ side_word s ∷ name ∷ decimal at ∷ [])
place_line (place.Checks n s at) = line (codes "checks" ∷ decimal n ∷ side_word s ∷ decimal at ∷ [])

-- The listing of a plan.
unfoldable pub listing : List Instr → List EnumList → List PlanLine → List ℕ
listing code values entries = flat_map instr_line (enumerate_from 0 code) ++ flat_map values_line values ++ flat_map place_line entries
