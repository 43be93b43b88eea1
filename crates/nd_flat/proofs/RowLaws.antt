-- Laws of rows of numbers.
-- `o` is an order, `p` a primitive, `os`, `ps`, `xs` are octets, `n`, `k`, `m` numbers of numbers, `r` is a row.
use Rattle.std.proofs.Common.{◌≡◌, ℕ, ◌+◌, ◌-◌, ◌*◌, ◌<◌, ◌≤◌, zero, suc, List, [], ◌∷◌, ◌++◌, length, take, drop, refl, ap, ap₂, sym, ◌∙◌, arith, length-append, append_assoc}
use Rattle.std.proofs.Math.Seq.{drop-append_seam}
use Rattle.std.proofs.lemmas.List.{map-append, drop-drop, length-drop, drop-append-le, take-append-le, take-append-drop, length-take-le as length-take_le}
use Rattle.nd_base.specs.declared.octets.Order.{Order}
use Rattle.nd_types.specs.declared.types.Primitive.{Primitive}
use Rattle.nd_types.specs.Table.{width}
use Rattle.nd_types.specs.Number.{value_of_octets}
use Rattle.nd_flat.specs.declared.node.Node.{Node}
use Rattle.nd_flat.specs.declared.row.KeptRow.{KeptRow}
use Rattle.nd_flat.specs.FlatForm.{row_values, num_flat, num_flats, row_flats, without_first, no_row, seen_nodes, flats, HasRow}
use Rattle.nd_flat.proofs.RecordLaws.{mul_sum}

-- all nodes of a list and another
pub flats-append : (os : List ℕ) (ns ms : List Node) → flats os (ns ++ ms) ≡ flats os ns ++ flats os ms
flats-append os [] ms = refl
flats-append os (n ∷ ns) ms = ap (λ fs. seen_nodes os n ++ fs) (flats-append os ns ms) ∙ sym (append_assoc (seen_nodes os n) (flats os ns) (flats os ms))

pub length_row_values : (o : Order) (p : Primitive) (n : ℕ) (os : List ℕ) → length (row_values o p n os) ≡ n
length_row_values o p zero os = refl
length_row_values o p (suc n) os = ap suc (length_row_values o p n (drop (width p) os))

-- the first numbers of a row, and the others
pub row_parts : (o : Order) (p : Primitive) (n k m : ℕ) (os : List ℕ) → n ≡ k + m
    → row_values o p n os ≡ row_values o p k os ++ row_values o p m (drop (k * width p) os)
row_parts o p n zero m os e =
    let same : n ≡ m = omega (arith, e) in
    let none : zero * width p ≡ 0 = omega arith in
    ap₂ (λ i j. row_values o p i (drop j os)) same (sym none)
row_parts o p zero (suc k) m os e = absurd (omega (arith, e))
row_parts o p (suc n) (suc k) m os e =
    let size : width p + k * width p ≡ suc k * width p = omega arith in
    ap (λ zs. value_of_octets o p (take (width p) os) ∷ zs)
    (row_parts o p n k m (drop (width p) os) (omega (arith, e))
    ∙ ap (λ zs. row_values o p k (drop (width p) os) ++ row_values o p m zs) (drop-drop (k * width p) (width p) os ∙ ap (λ i. drop i os) size))

-- octets after those of a row change nothing
pub row_grow : (o : Order) (p : Primitive) (n : ℕ) (xs ps : List ℕ) → n * width p ≤ length xs → row_values o p n (xs ++ ps) ≡ row_values o p n xs
row_grow o p zero xs ps h = refl
row_grow o p (suc n) xs ps h =
    let size : suc n * width p ≡ width p + n * width p = omega arith in
    let one : width p ≤ length xs = omega (arith, h, size) in
    let rest : n * width p ≤ length (drop (width p) xs) = let d = length-drop (width p) xs in omega (arith, h, size, d) in
    ap₂ (λ ys zs. value_of_octets o p ys ∷ zs) (take-append-le (width p) xs ps one)
    (ap (row_values o p n) (drop-append-le (width p) xs ps one) ∙ row_grow o p n (drop (width p) xs) ps rest)

-- a row needs its own octets alone
pub row_taken : (o : Order) (p : Primitive) (n k : ℕ) (xs : List ℕ) → k ≡ n * width p → k ≤ length xs → row_values o p n (take k xs) ≡ row_values o p n xs
row_taken o p n k xs e h =
    let whole : length (take k xs) ≡ k = length-take_le k xs h in
    sym (row_grow o p n (take k xs) (drop k xs) (omega (arith, whole, e))) ∙ ap (row_values o p n) (take-append-drop k xs)

pub kept_row_grow : (os ps : List ℕ) (r : KeptRow) → HasRow os r → row_flats (os ++ ps) r ≡ row_flats os r
kept_row_grow os ps r h =
    let there : r.from + r.count * width r.of ≤ length os = h in
    let start : r.from ≤ length os = omega (arith, there) in
    let d : length (drop r.from os) ≡ length os - r.from = length-drop r.from os in
    ap num_flats (ap (row_values r.order r.of r.count) (drop-append-le r.from os ps start) ∙ row_grow r.order r.of r.count (drop r.from os) ps (omega (arith, d, there)))

-- the first numbers of a row, and what follows them
pub kept_row_parts : (os : List ℕ) (r : KeptRow) (k : ℕ) → k ≤ r.count
    → row_flats os r ≡ num_flats (row_values r.order r.of k (drop r.from os)) ++ row_flats os (without_first k r)
kept_row_parts os r k le =
    let sum : r.count ≡ k + (r.count - k) = omega (arith, le) in
    ap num_flats
    (row_parts r.order r.of r.count k (r.count - k) (drop r.from os) sum
    ∙ ap (λ xs. row_values r.order r.of k (drop r.from os) ++ row_values r.order r.of (r.count - k) xs) (drop-drop (k * width r.of) r.from os))
    ∙ map-append num_flat (row_values r.order r.of k (drop r.from os)) (row_values r.order r.of (r.count - k) (drop (r.from + k * width r.of) os))

pub kept_row_first : (os : List ℕ) (r : KeptRow) → 0 < r.count
    → row_flats os r ≡ num_flat (value_of_octets r.order r.of (take (width r.of) (drop r.from os))) ∷ row_flats os (without_first 1 r)
kept_row_first os r some = kept_row_parts os r 1 (omega (arith, some))

-- what follows the first numbers of a row is there too
pub rest_there : (os : List ℕ) (r : KeptRow) (k : ℕ) → k ≤ r.count → HasRow os r → HasRow os (without_first k r)
rest_there os r k le h =
    let there : r.from + r.count * width r.of ≤ length os = h in
    let sum : r.count ≡ k + (r.count - k) = omega (arith, le) in
    let size : r.count * width r.of ≡ k * width r.of + (r.count - k) * width r.of = ap (λ n. n * width r.of) sum ∙ mul_sum k (r.count - k) (width r.of) in
    omega (arith, there, size)

pub no_row_there : (os : List ℕ) → HasRow os no_row
no_row_there os = omega arith

-- octets that are put after others are a row there
pub kept_row_there : (os ps : List ℕ) (r : KeptRow) → r.from ≡ length os → length ps ≡ r.count * width r.of → HasRow (os ++ ps) r
kept_row_there os ps r e h = omega (arith, e, h, length-append os ps)

pub kept_numbers : (os ps : List ℕ) (r : KeptRow) → r.from ≡ length os → row_flats (os ++ ps) r ≡ num_flats (row_values r.order r.of r.count ps)
kept_numbers os ps r e =
    ap (λ xs. num_flats (row_values r.order r.of r.count xs)) (ap (λ i. drop i (os ++ ps)) e ∙ drop-append_seam os ps)

-- the octets of a row that code takes
pub row_cut : (o : Order) (p : Primitive) (k from to : ℕ) (os : List ℕ) → to ≡ from + k * width p → to ≤ length os
    → row_values o p k (take (to - from) (drop from os)) ≡ row_values o p k (drop from os)
row_cut o p k from to os e h =
    let d : length (drop from os) ≡ length os - from = length-drop from os in
    row_taken o p k (to - from) (drop from os) (omega (arith, e)) (omega (arith, e, h, d))

-- the octets of one number
pub one_cut : (from to w : ℕ) (os : List ℕ) → to ≡ from + w → take (to - from) (drop from os) ≡ take w (drop from os)
one_cut from to w os e = let k : to - from ≡ w = omega (arith, e) in ap (λ i. take i (drop from os)) k
