-- How many octets structs of numbers and of unique and reference pointers have, by the code of a plan.
-- `code` is that of a plan, `pc` an address, `at` a place, `f` a member, `l` the lengths of a struct.
use Rattle.std.specs.Prelude.{◌≡◌, ◌≤◌, ℕ, ◌+◌, ◌*◌, zero, suc, List, slice_get, Option, Some}
use Rattle.nd_types.specs.Table.{width}
use Rattle.nd_grammar.specs.Entry.{gap}
use Rattle.ndr_code.specs.declared.instr.Instr.{Instr}
use Rattle.ndr_code.specs.declared.instr.Instr.TheVariants as op
use Rattle.ndr_code.specs.declared.fields.Form.{Form}
use Rattle.ndr_code.specs.declared.fields.Form.TheVariants as form
use Rattle.ndr_code.specs.declared.fields.Field.{Field}
use Rattle.ndr_code.specs.declared.lengths.Lengths.{Lengths}
use Rattle.ndr_code.specs.Fields.{field_of}

abbrev pub form_width : Form → ℕ
form_width (form.Number p) = width p
form_width (form.Pointer class to run) = 4

-- how many octets a member has at a place, with its gap
abbrev pub field_len : ℕ → Field → ℕ
field_len at f = gap at f.to + form_width f.form

-- so many members, which have so many octets from a place on, and a `close` after the last
abbrev pub HasFields : List Instr → ℕ → ℕ → ℕ → ℕ → Type 0
HasFields code pc at zero len = (slice_get code pc ≡ Some op.Close) × (len ≡ 0)
HasFields code pc at (suc n) len =
    (f : Field)
    × ((rest : ℕ) × ((field_of code pc ≡ Some f) × ((len ≡ field_len at f + rest) × HasFields code (pc + 1) (at + field_len at f) n rest)))

-- the struct at an address has these lengths, wherever it begins
pub record IsLengths (code : List Instr) (pc : ℕ) (l : Lengths) : Type 0 where
  pub at_eight : (n : ℕ) → slice_get code pc ≡ Some (op.Record n) → (k : ℕ) → HasFields code (pc + 1) (8 * k + 0) n l.at_eight
  pub after_four : (n : ℕ) → slice_get code pc ≡ Some (op.Record n) → (k : ℕ) → HasFields code (pc + 1) (8 * k + 4) n l.after_four
  pub few_at_eight : l.at_eight ≤ 64
  pub few_after_four : l.after_four ≤ 64

-- each entry is the lengths of the struct at its address
abbrev pub AreLengths : List Instr → List (Option Lengths) → Type 0
AreLengths code lengths = (at : ℕ) (l : Lengths) → slice_get lengths at ≡ Some (Some l) → IsLengths code at l
