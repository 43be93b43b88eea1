-- Octets that are written piece by piece: digits eight at a time, and characters of strings that are written as they are in one piece.
-- `xs` are octets, `x` is one of them, `from` and `at` are places in them.
use Rattle.std.proofs.Common.{◌≡◌, ℕ, zero, suc, ◌+◌, ◌-◌, ◌*◌, ◌/◌, ◌%◌, ◌≤◌, List, [], ◌∷◌, ◌++◌, length, take, drop, get_or, Some, refl, ap, ap₂, sym, ◌∙◌, arith, append_assoc}
use Rattle.std.proofs.Common.{slice_get, slice_range, append-nil}
use Rattle.std.proofs.lemmas.List.{take-append-drop, take_all, length-drop}
use Rattle.std.proofs.lemmas.List.Concat.{flat_map-append}
use Rattle.std.specs.Prelude.{flat_map}
use Rattle.nd_lemmas.proofs.Lists.{take_next}
use Rattle.nd_base.specs.Text.{hex_digit}
use Rattle.text_grammar.specs.Written.{escaped, hex_text, hex_octet}

get_dropped : (n m : ℕ) (xs : List ℕ) → slice_get (drop n xs) m ≡ slice_get xs (n + m)
get_dropped zero m xs = let e : m ≡ zero + m = omega arith in ap (slice_get xs) e
get_dropped (suc n) m [] = refl
get_dropped (suc n) m (x ∷ xs) = let e : suc (n + m) ≡ suc n + m = omega arith in get_dropped n m xs ∙ ap (slice_get (x ∷ xs)) e

-- a piece with one octet more
piece_more : (xs : List ℕ) (from at x : ℕ) → from ≤ at → slice_get xs at ≡ Some x → slice_range xs from (at + 1) ≡ slice_range xs from at ++ x ∷ []
piece_more xs from at x le e =
    let m = at - from in
    let one : at + 1 - from ≡ m + 1 = omega (arith, le) in
    let there : from + m ≡ at = omega (arith, le) in
    ap (λ n. take n (drop from xs)) one ∙ take_next (drop from xs) m x (get_dropped from m xs ∙ ap (slice_get xs) there ∙ e)

-- what is before a piece, and the piece
take_none : (n : ℕ) → take {A = ℕ} n [] ≡ []
take_none zero = refl
take_none (suc n) = refl

with_piece : (n m : ℕ) (xs : List ℕ) → take n xs ++ take m (drop n xs) ≡ take (n + m) xs
with_piece zero m xs = let e : m ≡ zero + m = omega arith in ap (λ k. take k xs) e
with_piece (suc n) m [] = take_none m ∙ sym (take_none (suc n + m))
with_piece (suc n) m (x ∷ xs) =
    let e : suc (n + m) ≡ suc n + m = omega arith in
    ap (λ ys. x ∷ ys) (with_piece n m xs) ∙ ap (λ k. take k (x ∷ xs)) e

before_piece : (xs : List ℕ) (from at : ℕ) → from ≤ at → take from xs ++ slice_range xs from at ≡ take at xs
before_piece xs from at le = with_piece from (at - from) xs ∙ ap (λ n. take n xs) (omega (arith, le))

-- ## Characters of strings

-- nothing is written as it is
pub plain_none : (xs : List ℕ) (at : ℕ) → flat_map escaped (slice_range xs at at) ≡ slice_range xs at at
plain_none xs at =
    let e : slice_range xs at at ≡ [] = let none : at - at ≡ 0 = omega arith in ap (λ n. take n (drop at xs)) none in
    ap (flat_map escaped) e ∙ sym e

-- one more octet that is written as it is
pub plain_more : (xs : List ℕ) (from at x : ℕ) → from ≤ at → slice_get xs at ≡ Some x → escaped x ≡ x ∷ []
    → flat_map escaped (slice_range xs from at) ≡ slice_range xs from at → flat_map escaped (slice_range xs from (at + 1)) ≡ slice_range xs from (at + 1)
plain_more xs from at x le e p h =
    let more = piece_more xs from at x le e in
    ap (flat_map escaped) more ∙ flat_map-append escaped (slice_range xs from at) (x ∷ []) ∙ ap₂ (λ ys zs. ys ++ (zs ++ [])) h p ∙ sym more

-- a piece that is written as it is
pub piece_written : (xs : List ℕ) (from at : ℕ) (text0 text text' : List ℕ) → from ≤ at → flat_map escaped (slice_range xs from at) ≡ slice_range xs from at
    → text ≡ text0 ++ flat_map escaped (take from xs) → text' ≡ text ++ slice_range xs from at → text' ≡ text0 ++ flat_map escaped (take at xs)
piece_written xs from at text0 text text' le h e e' =
    e' ∙ ap₂ (λ a b. a ++ b) e (sym h) ∙ append_assoc text0 _ _
    ∙ ap (λ a. text0 ++ a) (sym (flat_map-append escaped (take from xs) (slice_range xs from at)) ∙ ap (flat_map escaped) (before_piece xs from at le))

-- and the octet after it
pub piece_then : (xs : List ℕ) (from at x : ℕ) (text0 text text1 text' : List ℕ) → from ≤ at → slice_get xs at ≡ Some x
    → flat_map escaped (slice_range xs from at) ≡ slice_range xs from at → text ≡ text0 ++ flat_map escaped (take from xs) → text1 ≡ text ++ slice_range xs from at
    → text' ≡ text1 ++ escaped x → text' ≡ text0 ++ flat_map escaped (take (at + 1) xs)
piece_then xs from at x text0 text text1 text' le g h e e1 e' =
    e' ∙ ap (λ a. a ++ escaped x) (piece_written xs from at text0 text text1 le h e e1) ∙ append_assoc text0 _ _
    ∙ ap (λ a. text0 ++ a) (ap (λ b. flat_map escaped (take at xs) ++ b) (sym (append-nil (escaped x))) ∙ sym (flat_map-append escaped (take at xs) (x ∷ []))
    ∙ ap (flat_map escaped) (sym (take_next xs at x g)))

-- all is written
pub all_written : (xs : List ℕ) (from at end : ℕ) (text0 text text' : List ℕ) → from ≤ at → end ≡ at → length xs ≤ at → flat_map escaped (slice_range xs from at) ≡ slice_range xs from at
    → text ≡ text0 ++ flat_map escaped (take from xs) → text' ≡ text ++ slice_range xs from end → text' ≡ text0 ++ flat_map escaped xs
all_written xs from at end text0 text text' le same over h e e' =
    piece_written xs from at text0 text text' le h e (e' ∙ ap (λ n. text ++ slice_range xs from n) same) ∙ ap (λ ys. text0 ++ flat_map escaped ys) (take_all at xs over)

-- ## Digits

-- eight octets more
pub eight_more : (xs : List ℕ) (at : ℕ) (text0 text text' : List ℕ) → text ≡ text0 ++ hex_text (take (8 * at) xs) → text' ≡ text ++ hex_text (take 8 (drop (8 * at) xs))
    → text' ≡ text0 ++ hex_text (take (8 * (at + 1)) xs)
eight_more xs at text0 text text' e e' =
    e' ∙ ap (λ a. a ++ hex_text (take 8 (drop (8 * at) xs))) e ∙ append_assoc text0 _ _
    ∙ ap (λ a. text0 ++ a) (sym (flat_map-append hex_octet (take (8 * at) xs) (take 8 (drop (8 * at) xs))) ∙ ap hex_text (with_piece (8 * at) 8 xs ∙ ap (λ n. take n xs) (omega arith)))

-- those that are left
pub eights_over : (xs : List ℕ) (n m : ℕ) (text0 text text' : List ℕ) → m ≡ n → text ≡ text0 ++ hex_text (take n xs)
    → text' ≡ text ++ hex_text (take (length xs - m) (drop m xs)) → text' ≡ text0 ++ hex_text xs
eights_over xs n m text0 text text' same e e' =
    let long : length (drop m xs) ≡ length xs - m = length-drop m xs in
    let all : take (length xs - m) (drop m xs) ≡ drop m xs = take_all (length xs - m) (drop m xs) (omega (arith, long)) in
    e' ∙ ap (λ ys. text ++ hex_text ys) all ∙ ap₂ (λ a k. a ++ hex_text (drop k xs)) e same ∙ append_assoc text0 _ _
    ∙ ap (λ a. text0 ++ a) (sym (flat_map-append hex_octet (take n xs) (drop n xs)) ∙ ap hex_text (take-append-drop n xs))

-- eight octets, digit by digit
pub eight_digits : (xs : List ℕ) → length xs ≡ 8
    → hex_digit (get_or xs 0 0 / 16) ∷ hex_digit (get_or xs 0 0 % 16) ∷ hex_digit (get_or xs 1 0 / 16) ∷ hex_digit (get_or xs 1 0 % 16)
    ∷ hex_digit (get_or xs 2 0 / 16) ∷ hex_digit (get_or xs 2 0 % 16) ∷ hex_digit (get_or xs 3 0 / 16) ∷ hex_digit (get_or xs 3 0 % 16)
    ∷ hex_digit (get_or xs 4 0 / 16) ∷ hex_digit (get_or xs 4 0 % 16) ∷ hex_digit (get_or xs 5 0 / 16) ∷ hex_digit (get_or xs 5 0 % 16)
    ∷ hex_digit (get_or xs 6 0 / 16) ∷ hex_digit (get_or xs 6 0 % 16) ∷ hex_digit (get_or xs 7 0 / 16) ∷ hex_digit (get_or xs 7 0 % 16) ∷ []
    ≡ hex_text xs
eight_digits (a ∷ b ∷ c ∷ d ∷ e ∷ f ∷ g ∷ h ∷ []) l = refl
eight_digits _ l = cc
