-- The values of digits never fall.
use Rattle.std.proofs.Common.{◌≡◌, ℕ, suc, ◌+◌, ◌*◌, ◌^◌, ◌<◌, ◌≤◌, Bool, true, List, [], ◌∷◌, length, drop, refl, sym, ap, arith, ◌∙◌, Some, None}
use Rattle.std.proofs.Math.Nat.{mul-le-mul_left}
use Rattle.std.proofs.Math.Seq.{drop-cons}
use Rattle.std.proofs.lemmas.Bool.Decides.{nat_tests}
use Rattle.std.proofs.lemmas.List.{drop_all}
use Rattle.std.specs.Prelude.{slice_index, leb, ◌||◌, ◌&&◌}
use Rattle.std.specs.List.{list_all}
use Rattle.nd_base.specs.Text.{is_digit, is_hex_digit}
use Rattle.std.proofs.lemmas.Bool.{and_parts as both}
use Rattle.idl_lexer.specs.Pieces.{digit_value, value_from, in_64_bits}

pub value_grows : (base so_far : ℕ) (xs : List ℕ) → 1 ≤ base → so_far ≤ value_from base so_far xs
value_grows base so_far [] h = omega arith
value_grows base so_far (c ∷ cs) h =
    let more : so_far * 1 ≤ so_far * base = mul-le-mul_left so_far h in
    let next = value_grows base (so_far * base + digit_value c) cs h in
    omega (arith, more, next)

pub too_large : (n : ℕ) → 2 ^ 64 ≤ n → in_64_bits n ≡ None
too_large n h = grind (arith, nat_tests, h)

pub small : (n : ℕ) → n < 2 ^ 64 → in_64_bits n ≡ Some n
small n h = grind (arith, nat_tests, h)

-- one digit more
pub value_step : (base so_far : ℕ) (xs : List ℕ) (i : ℕ) → i < length xs
    → value_from base so_far (drop i xs) ≡ value_from base (so_far * base + digit_value (slice_index xs i)) (drop (i + 1) xs)
value_step base so_far xs i lt =
    let e : suc i ≡ i + 1 = omega arith in
    ap (λ (l : List ℕ). value_from base so_far l) (drop-cons xs i 0 lt)
    ∙ ap (λ (k : ℕ). value_from base (so_far * base + digit_value (slice_index xs i)) (drop k xs)) e

pub passes_limit : (base so_far : ℕ) (xs : List ℕ) (i : ℕ) → 1 ≤ base → i < length xs → 2 ^ 64 ≤ so_far * base + digit_value (slice_index xs i)
    → in_64_bits (value_from base so_far (drop i xs)) ≡ None
passes_limit base so_far xs i some lt h =
    too_large (value_from base so_far (drop i xs))
    (let e = value_step base so_far xs i lt in
    let g = value_grows base (so_far * base + digit_value (slice_index xs i)) (drop (i + 1) xs) some in
    omega (arith, e, g))

fits : (n : ℕ) → None ≡ in_64_bits n → 2 ^ 64 ≤ n
fits n h = grind (arith, nat_tests, h)

pub ends_past : (base so_far : ℕ) (xs : List ℕ) (i all : ℕ) → 1 ≤ base → i < length xs → None ≡ in_64_bits (so_far * base + digit_value (slice_index xs i))
    → all ≡ value_from base so_far (drop i xs) → None ≡ in_64_bits all
ends_past base so_far xs i all some lt h is =
    sym (ap in_64_bits is ∙ passes_limit base so_far xs i some lt (fits (so_far * base + digit_value (slice_index xs i)) h))

pub ends_within : (base value : ℕ) (xs : List ℕ) (i all : ℕ) → value < 2 ^ 64 → length xs ≤ i → all ≡ value_from base value (drop i xs) → Some value ≡ in_64_bits all
ends_within base value xs i all below past is =
    sym (ap in_64_bits (is ∙ ap (λ (l : List ℕ). value_from base value l) (drop_all i xs past)) ∙ small value below)

-- a decimal digit is a hexadecimal one
hex_digit : (c : ℕ) → is_digit c ≡ true → is_hex_digit c ≡ true
hex_digit c h = ap (λ (b : Bool). b || ((leb 65 c && leb c 70) || (leb 97 c && leb c 102))) h

pub hex_digits : (xs : List ℕ) → list_all is_digit xs ≡ true → list_all is_hex_digit xs ≡ true
hex_digits [] h = refl
hex_digits (c ∷ cs) h =
    let p = both (is_digit c) (list_all is_digit cs) h in
    ap (λ (b : Bool). b && list_all is_hex_digit cs) (hex_digit c p.0) ∙ hex_digits cs p.1
