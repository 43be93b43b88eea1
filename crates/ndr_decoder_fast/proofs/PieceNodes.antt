-- How many nodes the structs of numbers of a piece have.
-- `ps` are the members, `s` is the stride, `e` where the members end, `n` and `c` are how many structs there are.
use Rattle.std.proofs.Common.{◌≡◌, ◌≤◌, ◌<◌, ℕ, ◌+◌, ◌*◌, zero, suc, List, [], ◌∷◌, length, refl, sym, subst, arith}
use Rattle.std.specs.Prelude.{◌^◌}
use Rattle.nd_types.specs.declared.types.Primitive.{Primitive}
use Rattle.nd_types.specs.Table.{width}
use Rattle.nd_flat.specs.Records.{gap, place, end_from, widest_from, stride, records_len}
use Rattle.ndr_decoder_fast.specs.Elements.{HaveRoom}
use Rattle.nd_flat.proofs.RecordLaws.{width_some}
use Rattle.nd_lemmas.proofs.Numbers.{times_more as left_of}

one_octet : (at g w n e : ℕ) → 0 < w → at + g + w + n ≤ e → at + suc n ≤ e
one_octet at g w n e h k = omega (arith, h, k)

none_on : (at : ℕ) → at + 0 ≤ at
none_on at = omega arith

-- each member has an octet at least
octets_at_least : (at : ℕ) (ps : List Primitive) → at + length ps ≤ end_from at ps
octets_at_least at [] = none_on at
octets_at_least at (p ∷ ps) =
    one_octet at (gap at (width p)) (width p) (length ps) (end_from (place at p + width p) ps) (width_some p) (octets_at_least (place at p + width p) ps)

product : (n l s e g : ℕ) → 0 + l ≤ e → s ≡ e + g → n * l ≤ n * s → suc n * l ≤ n * s + e
product n l s e g h k f = let m : suc n * l ≡ l + n * l = omega arith in omega (arith, h, k, f, m)

-- structs have no more numbers than octets
numbers_few : (ps : List Primitive) (n : ℕ) → n * length ps ≤ records_len ps n
numbers_few ps zero = let a : zero * length ps ≡ 0 = omega arith in omega (arith, a)
numbers_few ps (suc n) =
    let e : ℕ = end_from 0 ps in
    let g : ℕ = gap e (widest_from 1 ps) in
    let h : 0 + length ps ≤ e = octets_at_least 0 ps in
    product n (length ps) (stride ps) e g h refl (left_of n (length ps) (stride ps) (wider (length ps) e g h))
  where
    wider : (l e g : ℕ) → 0 + l ≤ e → l ≤ e + g
    wider l e g h = omega (arith, h)

structs_few : (c l : ℕ) → 0 < l → c ≤ c * l
structs_few c zero h = absurd (omega (arith, h))
structs_few c (suc l) h = let m : c * suc l ≡ c + c * l = omega arith in omega (arith, m)

all_few : (c k n : ℕ) → n ≤ 4096 → c ≤ n → k + 8192 < 2 ^ 32 → k + (c + n) < 2 ^ 32
all_few c k n h g f = omega (arith, h, g, f)

-- the nodes of so many structs can be counted
pub nodes_fit : (at : ℕ) (ps : List Primitive) (k count len l : ℕ) → HaveRoom at ps count len → l ≡ length ps → k + 8192 < 2 ^ 32 → k + (count + count * l) < 2 ^ 32
nodes_fit at ps k count len l room el few =
    let n : count * length ps ≤ records_len ps count = numbers_few ps count in
    let p : len ≤ 4096 = room.piece in
    let r : len ≡ records_len ps count = room.len_is in
    let small : count * length ps ≤ 4096 = omega (arith, n, p, r) in
    subst (λ i. k + (count + count * i) < 2 ^ 32) (sym el) (all_few count k (count * length ps) small (structs_few count (length ps) room.members) few)
