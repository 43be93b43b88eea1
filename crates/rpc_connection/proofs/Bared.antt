-- A fragment without its padding and trailer is as long as it says.
use Rattle.std.proofs.Common.{◌≡◌, ◌∙◌, ℕ, ◌+◌, ◌-◌, ◌*◌, ◌/◌, ◌%◌, ◌^◌, ◌≤◌, ◌<◌, Bool, true, false, not, ◌&&◌, ◌==◌, ltb, List, []}
use Rattle.std.proofs.Common.{◌∷◌, ◌++◌, length, take, drop, slice_index, refl, ap, sym, subst, arith, eqb-true, lt_of_le_of_lt}
use Rattle.std.proofs.lemmas.List.{length-drop, length-take-le}
use Rattle.nd_base.specs.declared.octets.Order.{Order}
use Rattle.nd_base.specs.declared.octets.Order.TheVariants.{Big, Little}
use Rattle.nd_types.specs.Number.{unsigned, spelling}
use Rattle.nd_types.proofs.NumberLaws.{unsigned-spelling}
use Rattle.ndr_prim.specs.Label.{order_stated}
use Rattle.rpc_pdu.specs.declared.pdu.Wanted.{Wanted}
use Rattle.rpc_pdu.specs.Checks.{stated, order_of, has_object, fragment_length, authentication_length, header_length}
use Rattle.rpc_pdu.proofs.Checking.{below_or, least_header}
use Rattle.rpc_stream.specs.Pdus.{short_by, is_no_label}
use Rattle.rpc_stream.specs.Pdus.{fragment_length as stated_length}
use Rattle.rpc_connection.specs.Bare.{Bare, plain, sealed, no_room, trailer_at, level, padding, stub_end, has_no_room, shortened, bare_by, bare}

-- ## One length

-- the length of a PDU in the words of both crates
at_big : (a b : ℕ) → unsigned Big (a ∷ b ∷ []) ≡ a * 256 + b
at_big a b = omega arith

at_little : (a b : ℕ) → unsigned Little (a ∷ b ∷ []) ≡ b * 256 + a
at_little a b = omega arith

by_label : (o a b : ℕ) (x y : Bool) → (o == 0) ≡ x → (o == 16) ≡ y → (not x && not y) ≡ false → unsigned (stated (order_stated (o / 16) (o % 16))) (a ∷ b ∷ []) ≡ short_by (o == 16) a b
by_label o a b true y e f h =
    subst (λ (k : ℕ). unsigned (stated (order_stated (k / 16) (k % 16))) (a ∷ b ∷ []) ≡ short_by (k == 16) a b) (sym (eqb-true o 0 e)) (at_big a b)
by_label o a b false true e f h =
    subst (λ (k : ℕ). unsigned (stated (order_stated (k / 16) (k % 16))) (a ∷ b ∷ []) ≡ short_by (k == 16) a b) (sym (eqb-true o 16 f)) (at_little a b)
by_label o a b false false e f h = cc

pub one_length : (os : List ℕ) → is_no_label (slice_index os 4) ≡ false → fragment_length os ≡ stated_length os
one_length os h = by_label (slice_index os 4) (slice_index os 8) (slice_index os 9) (slice_index os 4 == 0) (slice_index os 4 == 16) refl refl h

-- ## A shortened fragment

spelled : (o : Order) (a0 a1 a2 a3 a4 a5 a6 a7 n : ℕ) (rest : List ℕ) → n < 2 ^ 16
    → unsigned o (slice_index (a0 ∷ a1 ∷ a2 ∷ a3 ∷ a4 ∷ a5 ∷ a6 ∷ a7 ∷ (spelling o 2 n ++ rest)) 8
    ∷ slice_index (a0 ∷ a1 ∷ a2 ∷ a3 ∷ a4 ∷ a5 ∷ a6 ∷ a7 ∷ (spelling o 2 n ++ rest)) 9
    ∷ [])
    ≡ n
spelled Big a0 a1 a2 a3 a4 a5 a6 a7 n rest b = unsigned-spelling Big 2 n b
spelled Little a0 a1 a2 a3 a4 a5 a6 a7 n rest b = unsigned-spelling Little 2 n b

ten : (o : Order) (a0 a1 a2 a3 a4 a5 a6 a7 n : ℕ) (rest : List ℕ) → length (a0 ∷ a1 ∷ a2 ∷ a3 ∷ a4 ∷ a5 ∷ a6 ∷ a7 ∷ (spelling o 2 n ++ rest)) ≡ 10 + length rest
ten Big a0 a1 a2 a3 a4 a5 a6 a7 n rest = omega arith
ten Little a0 a1 a2 a3 a4 a5 a6 a7 n rest = omega arith

rest_long : (p : List ℕ) (n : ℕ) → 12 ≤ n → n ≤ length p → 10 + length (0 ∷ 0 ∷ drop 12 (take n p)) ≡ n
rest_long p n least most =
    let a : length (drop 12 (take n p)) ≡ length (take n p) - 12 = length-drop 12 (take n p) in
    let b : length (take n p) ≡ n = length-take-le n p most in
    omega (arith, a, b, least)

short_whole : (p : List ℕ) (n : ℕ) → 8 ≤ length p → n < 2 ^ 16 → 12 ≤ n → n ≤ length p → length (shortened p n) ≡ fragment_length (shortened p n)
short_whole (a0 ∷ a1 ∷ a2 ∷ a3 ∷ a4 ∷ a5 ∷ a6 ∷ a7 ∷ os) n long small least most =
    let o : Order = stated (order_stated (a4 / 16) (a4 % 16)) in
    let rest : List ℕ = 0 ∷ 0 ∷ drop 12 (take n (a0 ∷ a1 ∷ a2 ∷ a3 ∷ a4 ∷ a5 ∷ a6 ∷ a7 ∷ os)) in
    ten o a0 a1 a2 a3 a4 a5 a6 a7 n rest
    ∙ rest_long (a0 ∷ a1 ∷ a2 ∷ a3 ∷ a4 ∷ a5 ∷ a6 ∷ a7 ∷ os) n least most
    ∙ sym (spelled o a0 a1 a2 a3 a4 a5 a6 a7 n rest small)
short_whole p n long small least most = absurd (omega (arith, long))

-- ## What is bare

room : (f h d a : ℕ) → ltb f (h + d + a + 8) ≡ false → 24 ≤ h → 12 ≤ f - (a + 8) - d
room f h d a e least = let k : h + d + a + 8 ≤ f = below_or f (h + d + a + 8) e in omega (arith, k, least)

within : (f d a : ℕ) → f - (a + 8) - d ≤ f
within f d a = omega arith

same_plain : (p q : List ℕ) → plain p ≡ plain q → p ≡ q
same_plain p q h = cc

by_tests : (want : Wanted) (p q : List ℕ) (none small private : Bool) → has_no_room want p ≡ small → bare_by none small private p (shortened p (stub_end p)) ≡ plain q
    → length p ≡ fragment_length p → 16 ≤ length p → fragment_length p < 2 ^ 16 → length q ≡ fragment_length q
by_tests want p q true small private e h whole long below = subst (λ (l : List ℕ). length l ≡ fragment_length l) (same_plain p q h) whole
by_tests want p q false true private e h whole long below = cc
by_tests want p q false false true e h whole long below = cc
by_tests want p q false false false e h whole long below =
    let n : ℕ = stub_end p in
    let most : stub_end p ≤ fragment_length p = within (fragment_length p) (padding p) (authentication_length p) in
    let least : 12 ≤ stub_end p = room (fragment_length p) (header_length want p) (padding p) (authentication_length p) e (least_header want (has_object p)) in
    let eight : 8 ≤ length p = omega (arith, long) in
    let small : stub_end p < 2 ^ 16 = lt_of_le_of_lt most below in
    let inside : stub_end p ≤ length p = subst (λ k. stub_end p ≤ k) (sym whole) most in
    subst (λ (l : List ℕ). length l ≡ fragment_length l) (same_plain (shortened p (stub_end p)) q h) (short_whole p (stub_end p) eight small least inside)

pub bare_whole : (want : Wanted) (p q : List ℕ) → length p ≡ fragment_length p → 16 ≤ length p → fragment_length p < 2 ^ 16 → bare want p ≡ plain q → length q ≡ fragment_length q
bare_whole want p q whole long below h = by_tests want p q (authentication_length p == 0) (has_no_room want p) (level p == 6) refl h whole long below
