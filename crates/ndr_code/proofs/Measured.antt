-- The length of a struct, member by member.
use Rattle.std.proofs.Common.{◌≡◌, ◌<◌, ℕ, ◌+◌, ◌-◌, zero, suc, List, Some, refl, subst, arith, slice_get}
use Rattle.ndr_code.specs.declared.instr.Instr.{Instr}
use Rattle.ndr_code.specs.declared.instr.Instr.TheVariants as op
use Rattle.ndr_code.specs.declared.fields.Field.{Field}
use Rattle.ndr_code.specs.Fields.{field_of}
use Rattle.ndr_code.specs.Lengths.{field_len, HasFields}

-- `next` is the address of the next member, `len` how many octets those before it have
abbrev pub IsMeasured : List Instr → ℕ → ℕ → ℕ → ℕ → ℕ → ℕ → Type 0
IsMeasured code pc at members next left len = (rest : ℕ) → HasFields code next (at + len) left rest → HasFields code pc at members (len + rest)

pub measured_more : (code : List Instr) (pc at members next left len len1 : ℕ) (f : Field) → IsMeasured code pc at members next left len → 0 < left → field_of code next ≡ Some f
    → len1 ≡ len + field_len (at + len) f → IsMeasured code pc at members (next + 1) (left - 1) len1
measured_more code pc at members next zero len len1 f m some e len_is rest h = absurd (omega (arith, some))
measured_more code pc at members next (suc n) len len1 f m some e len_is rest h =
    let place : at + len1 ≡ at + len + field_len (at + len) f = omega (arith, len_is) in
    let sum : len + (field_len (at + len) f + rest) ≡ len1 + rest = omega (arith, len_is) in
    let less : suc n - 1 ≡ n = omega arith in
    subst (λ k. HasFields code pc at members k) sum
    (m (field_len (at + len) f + rest) (f, (rest, (e, (refl, subst (λ k. HasFields code (next + 1) k n rest) place (subst (λ k. HasFields code (next + 1) (at + len1) k rest) less h))))))

pub measured_whole : (code : List Instr) (pc at members next left len : ℕ) → IsMeasured code pc at members next left len → left ≡ 0 → slice_get code next ≡ Some op.Close
    → HasFields code pc at members len
measured_whole code pc at members next zero len m none there =
    let len_is : len + 0 ≡ len = omega arith in
    subst (λ k. HasFields code pc at members k) len_is (m 0 (there, refl))
measured_whole code pc at members next (suc n) len m none there = absurd (omega (arith, none))
