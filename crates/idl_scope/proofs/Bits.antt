-- Two's complement at 128 bits is two's complement of unlimited width, of numbers that 128 bits hold.
use Rattle.std.proofs.Common.{◌≡◌, ℕ, zero, suc, ◌+◌, ◌-◌, ◌%◌, ◌^◌, ◌<◌, ◌≤◌, min, max, refl, sym, ◌∙◌, ap, arith, ℤ, pos, negsuc, bit_and, bit_or}
use Rattle.std.specs.Prelude.{bit_xor}
use Rattle.std.specs.Int.{Width, w128, bit_at, bit_not}
use Rattle.std.proofs.lemmas.Int.{to_z_pos, to_z-of_z}
use Rattle.std.proofs.lemmas.Nat.{pow_pos, and_comm, or_comm, xor_comm, and_le_l, or_lt, xor_lt}
use Rattle.std.proofs.lemmas.Nat.Bits.{same_from_bits_below, same_from_bits, bit_at_above, bit_at_and, bit_at_or, bit_at_xor, bit_at_not, bit_at-lt}
use Rattle.std.proofs.Math.Nat.{min_comm, max_comm, add_comm, two-pow-succ}
use mir.Val.{bits, hbits, to_z, of_z, SFits}
use Rattle.idl_scope.specs.Value.{without, bits_in_both, bits_in_either, bits_in_one, complement, bit}

two : (f : ℕ → ℕ → ℕ) (x y p q : ℕ) → x ≡ p → y ≡ q → f x y ≡ f p q
two f x y p q e g = ap (λ z. f z y) e ∙ ap (f p) g

-- ## Two bits

least_of_nots : (x y : ℕ) → x < 2 → y < 2 → min (1 - x) (1 - y) ≡ 1 - max x y
least_of_nots zero zero p q = refl
least_of_nots zero (suc zero) p q = refl
least_of_nots (suc zero) zero p q = refl
least_of_nots (suc zero) (suc zero) p q = refl
least_of_nots (suc (suc x)) y p q = absurd (omega (arith, p))
least_of_nots x (suc (suc y)) p q = absurd (omega (arith, q))

greatest_of_nots : (x y : ℕ) → x < 2 → y < 2 → max (1 - x) (1 - y) ≡ 1 - min x y
greatest_of_nots zero zero p q = refl
greatest_of_nots zero (suc zero) p q = refl
greatest_of_nots (suc zero) zero p q = refl
greatest_of_nots (suc zero) (suc zero) p q = refl
greatest_of_nots (suc (suc x)) y p q = absurd (omega (arith, p))
greatest_of_nots x (suc (suc y)) p q = absurd (omega (arith, q))

one_of_not : (x y : ℕ) → x < 2 → y < 2 → (x + (1 - y)) % 2 ≡ 1 - (x + y) % 2
one_of_not zero zero p q = refl
one_of_not zero (suc zero) p q = refl
one_of_not (suc zero) zero p q = refl
one_of_not (suc zero) (suc zero) p q = refl
one_of_not (suc (suc x)) y p q = absurd (omega (arith, p))
one_of_not x (suc (suc y)) p q = absurd (omega (arith, q))

below_two_pow : (n : ℕ) → n < 2 ^ n
below_two_pow zero = omega arith
below_two_pow (suc n) = omega (arith, below_two_pow n, two-pow-succ n)

below_power : (k n : ℕ) → n ≤ k → n < 2 ^ k
below_power k n h = omega (arith, below_two_pow k)

one_without : (x y : ℕ) → x < 2 → y < 2 → (x + min x y) % 2 ≡ min x (1 - y)
one_without zero zero p q = refl
one_without zero (suc zero) p q = refl
one_without (suc zero) zero p q = refl
one_without (suc zero) (suc zero) p q = refl
one_without (suc (suc x)) y p q = absurd (omega (arith, p))
one_without x (suc (suc y)) p q = absurd (omega (arith, q))

bit_at_without : (a b i : ℕ) → bit_at (without a b) i ≡ min (bit_at a i) (1 - bit_at b i)
bit_at_without a b i =
    bit_at_xor a (bit_and a b) i
    ∙ ap (λ y. (bit_at a i + y) % 2) (bit_at_and a b i)
    ∙ one_without (bit_at a i) (bit_at b i) (bit_at-lt a i) (bit_at-lt b i)

without_lt : (k a b : ℕ) → a < 2 ^ k → without a b < 2 ^ k
without_lt k a b p = xor_lt k a (bit_and a b) p (omega (arith, and_le_l a b, p))

-- ## Numbers of a width

not_lt : (w : Width) (n : ℕ) → bit_not w n < 2 ^ bits w
not_lt w n = omega (arith, pow_pos (bits w))

not_not : (w : Width) (n : ℕ) → n < 2 ^ bits w → bit_not w (bit_not w n) ≡ n
not_not w n p = omega (arith, p)

and_nots : (w : Width) (a b : ℕ) → a < 2 ^ bits w → b < 2 ^ bits w → bit_and (bit_not w a) (bit_not w b) ≡ bit_not w (bit_or a b)
and_nots w a b p q = same_from_bits_below (bits w) (bit_and (bit_not w a) (bit_not w b)) (bit_not w (bit_or a b))
    (omega (arith, and_le_l (bit_not w a) (bit_not w b), not_lt w a)) (not_lt w (bit_or a b))
    (λ i h. bit_at_and (bit_not w a) (bit_not w b) i
    ∙ two min (bit_at (bit_not w a) i) (bit_at (bit_not w b) i) (1 - bit_at a i) (1 - bit_at b i) (bit_at_not w a i p h) (bit_at_not w b i q h)
    ∙ least_of_nots (bit_at a i) (bit_at b i) (bit_at-lt a i) (bit_at-lt b i)
    ∙ ap (λ m. 1 - m) (sym (bit_at_or a b i))
    ∙ sym (bit_at_not w (bit_or a b) i (or_lt (bits w) a b p q) h))

or_nots : (w : Width) (a b : ℕ) → a < 2 ^ bits w → b < 2 ^ bits w → bit_or (bit_not w a) (bit_not w b) ≡ bit_not w (bit_and a b)
or_nots w a b p q = same_from_bits_below (bits w) (bit_or (bit_not w a) (bit_not w b)) (bit_not w (bit_and a b))
    (or_lt (bits w) (bit_not w a) (bit_not w b) (not_lt w a) (not_lt w b)) (not_lt w (bit_and a b))
    (λ i h. bit_at_or (bit_not w a) (bit_not w b) i
    ∙ two max (bit_at (bit_not w a) i) (bit_at (bit_not w b) i) (1 - bit_at a i) (1 - bit_at b i) (bit_at_not w a i p h) (bit_at_not w b i q h)
    ∙ greatest_of_nots (bit_at a i) (bit_at b i) (bit_at-lt a i) (bit_at-lt b i)
    ∙ ap (λ m. 1 - m) (sym (bit_at_and a b i))
    ∙ sym (bit_at_not w (bit_and a b) i (omega (arith, and_le_l a b, p)) h))

xor_not : (w : Width) (a b : ℕ) → a < 2 ^ bits w → b < 2 ^ bits w → bit_xor a (bit_not w b) ≡ bit_not w (bit_xor a b)
xor_not w a b p q = same_from_bits_below (bits w) (bit_xor a (bit_not w b)) (bit_not w (bit_xor a b))
    (xor_lt (bits w) a (bit_not w b) p (not_lt w b)) (not_lt w (bit_xor a b))
    (λ i h. bit_at_xor a (bit_not w b) i
    ∙ ap (λ y. (bit_at a i + y) % 2) (bit_at_not w b i q h)
    ∙ one_of_not (bit_at a i) (bit_at b i) (bit_at-lt a i) (bit_at-lt b i)
    ∙ ap (λ m. 1 - m) (sym (bit_at_xor a b i))
    ∙ sym (bit_at_not w (bit_xor a b) i (xor_lt (bits w) a b p q) h))

and_not : (w : Width) (a b : ℕ) → a < 2 ^ bits w → b < 2 ^ bits w → bit_and a (bit_not w b) ≡ without a b
and_not w a b p q = same_from_bits_below (bits w) (bit_and a (bit_not w b)) (without a b)
    (omega (arith, and_le_l a (bit_not w b), p)) (without_lt (bits w) a b p)
    (λ i h. bit_at_and a (bit_not w b) i ∙ ap (min (bit_at a i)) (bit_at_not w b i q h) ∙ sym (bit_at_without a b i))

or_not : (w : Width) (a b : ℕ) → a < 2 ^ bits w → b < 2 ^ bits w → bit_or a (bit_not w b) ≡ bit_not w (without b a)
or_not w a b p q =
    ap (λ x. bit_or x (bit_not w b)) (sym (not_not w a p))
    ∙ or_nots w (bit_not w a) b (not_lt w a) q
    ∙ ap (bit_not w) (and_comm (bit_not w a) b ∙ and_not w b a q p)

xor_nots : (w : Width) (a b : ℕ) → a < 2 ^ bits w → b < 2 ^ bits w → bit_xor (bit_not w a) (bit_not w b) ≡ bit_xor a b
xor_nots w a b p q =
    xor_not w (bit_not w a) b (not_lt w a) q
    ∙ ap (bit_not w) (xor_comm (bit_not w a) b ∙ xor_not w b a q p)
    ∙ not_not w (bit_xor b a) (xor_lt (bits w) b a q p)
    ∙ xor_comm b a

-- ## Signed numbers of 128 bits

negative_bits : (w : Width) (n : ℕ) → of_z w (negsuc n) ≡ bit_not w n
negative_bits w n = omega arith

as_negative : (w : Width) (n : ℕ) → n < 2 ^ hbits w → to_z w (bit_not w n) ≡ negsuc n
as_negative w n h = ap (to_z w) (sym (negative_bits w n)) ∙ to_z-of_z w (negsuc n) (record { sfits = h })

fits : (n : ℕ) → n < 2 ^ hbits w128 → n < 2 ^ bits w128
fits n h = omega (arith, h)

pub both_is : (a b : ℤ) → SFits w128 a → SFits w128 b → to_z w128 (bit_and (of_z w128 a) (of_z w128 b)) ≡ bits_in_both a b
both_is (pos a) (pos b) f g = to_z_pos w128 (bit_and a b) (omega (arith, and_le_l a b, f.sfits))
both_is (pos a) (negsuc b) f g =
    ap (to_z w128) (ap (bit_and a) (negative_bits w128 b) ∙ and_not w128 a b (fits a f.sfits) (fits b g.sfits))
    ∙ to_z_pos w128 (without a b) (without_lt (hbits w128) a b f.sfits)
both_is (negsuc a) (pos b) f g =
    ap (to_z w128) (ap (λ x. bit_and x b) (negative_bits w128 a) ∙ and_comm (bit_not w128 a) b ∙ and_not w128 b a (fits b g.sfits) (fits a f.sfits))
    ∙ to_z_pos w128 (without b a) (without_lt (hbits w128) b a g.sfits)
both_is (negsuc a) (negsuc b) f g =
    ap (to_z w128) (two bit_and (of_z w128 (negsuc a)) (of_z w128 (negsuc b)) (bit_not w128 a) (bit_not w128 b) (negative_bits w128 a) (negative_bits w128 b)
    ∙ and_nots w128 a b (fits a f.sfits) (fits b g.sfits))
    ∙ as_negative w128 (bit_or a b) (or_lt (hbits w128) a b f.sfits g.sfits)

pub either_is : (a b : ℤ) → SFits w128 a → SFits w128 b → to_z w128 (bit_or (of_z w128 a) (of_z w128 b)) ≡ bits_in_either a b
either_is (pos a) (pos b) f g = to_z_pos w128 (bit_or a b) (or_lt (hbits w128) a b f.sfits g.sfits)
either_is (pos a) (negsuc b) f g =
    ap (to_z w128) (ap (bit_or a) (negative_bits w128 b) ∙ or_not w128 a b (fits a f.sfits) (fits b g.sfits))
    ∙ as_negative w128 (without b a) (without_lt (hbits w128) b a g.sfits)
either_is (negsuc a) (pos b) f g =
    ap (to_z w128) (ap (λ x. bit_or x b) (negative_bits w128 a) ∙ or_comm (bit_not w128 a) b ∙ or_not w128 b a (fits b g.sfits) (fits a f.sfits))
    ∙ as_negative w128 (without a b) (without_lt (hbits w128) a b f.sfits)
either_is (negsuc a) (negsuc b) f g =
    ap (to_z w128) (two bit_or (of_z w128 (negsuc a)) (of_z w128 (negsuc b)) (bit_not w128 a) (bit_not w128 b) (negative_bits w128 a) (negative_bits w128 b)
    ∙ or_nots w128 a b (fits a f.sfits) (fits b g.sfits))
    ∙ as_negative w128 (bit_and a b) (omega (arith, and_le_l a b, f.sfits))

pub one_is : (a b : ℤ) → SFits w128 a → SFits w128 b → to_z w128 (bit_xor (of_z w128 a) (of_z w128 b)) ≡ bits_in_one a b
one_is (pos a) (pos b) f g = to_z_pos w128 (bit_xor a b) (xor_lt (hbits w128) a b f.sfits g.sfits)
one_is (pos a) (negsuc b) f g =
    ap (to_z w128) (ap (bit_xor a) (negative_bits w128 b) ∙ xor_not w128 a b (fits a f.sfits) (fits b g.sfits))
    ∙ as_negative w128 (bit_xor a b) (xor_lt (hbits w128) a b f.sfits g.sfits)
one_is (negsuc a) (pos b) f g =
    ap (to_z w128) (ap (λ x. bit_xor x b) (negative_bits w128 a) ∙ xor_comm (bit_not w128 a) b ∙ xor_not w128 b a (fits b g.sfits) (fits a f.sfits)
    ∙ ap (bit_not w128) (xor_comm b a))
    ∙ as_negative w128 (bit_xor a b) (xor_lt (hbits w128) a b f.sfits g.sfits)
one_is (negsuc a) (negsuc b) f g =
    ap (to_z w128) (two bit_xor (of_z w128 (negsuc a)) (of_z w128 (negsuc b)) (bit_not w128 a) (bit_not w128 b) (negative_bits w128 a) (negative_bits w128 b)
    ∙ xor_nots w128 a b (fits a f.sfits) (fits b g.sfits))
    ∙ to_z_pos w128 (bit_xor a b) (xor_lt (hbits w128) a b f.sfits g.sfits)

-- ## Two's complement of unlimited width

pub bit_of_complement : (a : ℤ) (k : ℕ) → bit (complement a) k ≡ 1 - bit a k
bit_of_complement (pos a) k = refl
bit_of_complement (negsuc a) k = omega (arith, bit_at-lt a k)

pub bit_of_both : (a b : ℤ) (k : ℕ) → bit (bits_in_both a b) k ≡ min (bit a k) (bit b k)
bit_of_both (pos a) (pos b) k = bit_at_and a b k
bit_of_both (pos a) (negsuc b) k = bit_at_without a b k
bit_of_both (negsuc a) (pos b) k = bit_at_without b a k ∙ min_comm (bit_at b k) (1 - bit_at a k)
bit_of_both (negsuc a) (negsuc b) k = ap (λ m. 1 - m) (bit_at_or a b k) ∙ sym (least_of_nots (bit_at a k) (bit_at b k) (bit_at-lt a k) (bit_at-lt b k))

not_least : (x y : ℕ) → x < 2 → y < 2 → 1 - min y (1 - x) ≡ max x (1 - y)
not_least zero zero p q = refl
not_least zero (suc zero) p q = refl
not_least (suc zero) zero p q = refl
not_least (suc zero) (suc zero) p q = refl
not_least (suc (suc x)) y p q = absurd (omega (arith, p))
not_least x (suc (suc y)) p q = absurd (omega (arith, q))

pub bit_of_either : (a b : ℤ) (k : ℕ) → bit (bits_in_either a b) k ≡ max (bit a k) (bit b k)
bit_of_either (pos a) (pos b) k = bit_at_or a b k
bit_of_either (pos a) (negsuc b) k = ap (λ m. 1 - m) (bit_at_without b a k) ∙ not_least (bit_at a k) (bit_at b k) (bit_at-lt a k) (bit_at-lt b k)
bit_of_either (negsuc a) (pos b) k =
    ap (λ m. 1 - m) (bit_at_without a b k) ∙ not_least (bit_at b k) (bit_at a k) (bit_at-lt b k) (bit_at-lt a k) ∙ max_comm (bit_at b k) (1 - bit_at a k)
bit_of_either (negsuc a) (negsuc b) k = ap (λ m. 1 - m) (bit_at_and a b k) ∙ sym (greatest_of_nots (bit_at a k) (bit_at b k) (bit_at-lt a k) (bit_at-lt b k))

one_of_nots : (x y : ℕ) → x < 2 → y < 2 → (1 - x + (1 - y)) % 2 ≡ (x + y) % 2
one_of_nots zero zero p q = refl
one_of_nots zero (suc zero) p q = refl
one_of_nots (suc zero) zero p q = refl
one_of_nots (suc zero) (suc zero) p q = refl
one_of_nots (suc (suc x)) y p q = absurd (omega (arith, p))
one_of_nots x (suc (suc y)) p q = absurd (omega (arith, q))

pub bit_of_one : (a b : ℤ) (k : ℕ) → bit (bits_in_one a b) k ≡ (bit a k + bit b k) % 2
bit_of_one (pos a) (pos b) k = bit_at_xor a b k
bit_of_one (pos a) (negsuc b) k = ap (λ m. 1 - m) (bit_at_xor a b k) ∙ sym (one_of_not (bit_at a k) (bit_at b k) (bit_at-lt a k) (bit_at-lt b k))
bit_of_one (negsuc a) (pos b) k =
    ap (λ m. 1 - m) (bit_at_xor a b k ∙ ap (λ n. n % 2) (add_comm (bit_at a k) (bit_at b k)))
    ∙ sym (one_of_not (bit_at b k) (bit_at a k) (bit_at-lt b k) (bit_at-lt a k))
    ∙ ap (λ n. n % 2) (add_comm (bit_at b k) (1 - bit_at a k))
bit_of_one (negsuc a) (negsuc b) k = bit_at_xor a b k ∙ sym (one_of_nots (bit_at a k) (bit_at b k) (bit_at-lt a k) (bit_at-lt b k))

-- no number without sign has the bits of one with a sign
apart : (a b : ℕ) → ((k : ℕ) → bit_at a k ≡ 1 - bit_at b k) → ⊥
apart a b same = absurd (omega (
  arith,
  same (max a b),
  bit_at_above a (max a b) (max a b) (below_power (max a b) a (omega arith)) (omega arith),
  bit_at_above b (max a b) (max a b) (below_power (max a b) b (omega arith)) (omega arith),
))

pub same_bits : (a b : ℤ) → ((k : ℕ) → bit a k ≡ bit b k) → a ≡ b
same_bits (pos a) (pos b) same = ap pos (same_from_bits a b same)
same_bits (pos a) (negsuc b) same = absurd (apart a b same)
same_bits (negsuc a) (pos b) same = absurd (apart b a (λ k. sym (same k)))
same_bits (negsuc a) (negsuc b) same = ap negsuc (same_from_bits a b (λ k. omega (arith, same k, bit_at-lt a k, bit_at-lt b k)))

-- what the law of the operators on bits names
pub ruleset bitwise = (bit_of_complement, bit_of_both, bit_of_either, bit_of_one, same_bits)
