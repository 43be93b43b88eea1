-- The values of cells, as a walk finds them, and their sum, one after the other.
use Rattle.std.proofs.Common.{◌≡◌, ℕ, zero, suc, ◌+◌, ◌*◌, ◌^◌, ◌≤◌, ◌<◌, ℤ, pos, negsuc, List, [], ◌∷◌, length, drop, refl, ap, inl, inr, ◌⊎◌, arith}
use Rattle.std.specs.List.{slice_get}
use Rattle.std.proofs.lemmas.Bool.{cases_lt, lt-ltb, le-ltb}
use Rattle.nd_value.specs.Setting.{cell_tree}
use Rattle.nd_value.specs.Tree as tree
use Rattle.nd_value.specs.Tree.{Tree, Trees, Label, Flat, Referent, node, none, more, flat}
use Rattle.command_sample.specs.Values.{small, small_in, value_of, values_sum}

-- ## A walk

-- the second node of a walk has the value
pub second_value : (t : Tree) (a b : Flat) (us vs : Trees) → flat (more t none) ≡ a ∷ flat us → flat us ≡ b ∷ flat vs → value_of t ≡ small_in b.0
second_value (node l none) a b us vs first second = cc
second_value (node l (more (node k ks) ts)) a b us vs first second = cc

-- ## The sum

small_below : (z : ℤ) → small z ≤ 999
small_below (pos v) = go (cases_lt v 1000)
  where
    go : (v < 1000) ⊎ (1000 ≤ v) → small (pos v) ≤ 999
    go (inl lt) = rw (lt-ltb v 1000 lt) (omega (arith, lt))
    go (inr le) = rw (le-ltb v 1000 le) (omega arith)
small_below (negsuc v) = omega arith

label_below : (l : Label) → small_in l ≤ 999
label_below (tree.Num z) = small_below z
label_below tree.Rec = omega arith
label_below (tree.Arr max offset) = omega arith
label_below (tree.Text max octets) = omega arith
label_below (tree.Union tag) = omega arith
label_below (tree.Ptr c) = omega arith
label_below (tree.Context attributes id) = omega arith
label_below tree.Pipe = omega arith
label_below tree.Unread = omega arith

value_below : (t : Tree) → value_of t ≤ 999
value_below (node l none) = omega arith
value_below (node l (more (node k ks) ts)) = label_below k

pub sum_below : (xs : List Referent) → values_sum xs ≤ 999 * length xs
sum_below [] = omega arith
sum_below (x ∷ xs) = let own = value_below x.val in let rest = sum_below xs in omega (arith, own, rest)

-- what is left at a place
left_at : (xs : List Referent) (at : ℕ) → at < length xs → values_sum (drop at xs) ≡ value_of (cell_tree (slice_get xs at)) + values_sum (drop (suc at) xs)
left_at [] at lt = absurd (omega (arith, lt))
left_at (x ∷ xs) zero lt = refl
left_at (x ∷ xs) (suc at) lt = left_at xs at (omega (arith, lt))

-- the sum so far, and what is left
abbrev pub Summed : List Referent → ℕ → ℕ → Type 0
Summed xs at sum = sum + values_sum (drop at xs) ≡ values_sum xs

pub one_more : (xs : List Referent) (at sum v : ℕ) → at < length xs → Summed xs at sum → v ≡ value_of (cell_tree (slice_get xs at)) → Summed xs (at + 1) (sum + v)
one_more xs at sum v lt h e =
    let now = left_at xs at lt in
    let one : at + 1 ≡ suc at = omega arith in
    let next : values_sum (drop (at + 1) xs) ≡ values_sum (drop (suc at) xs) = ap (λ k. values_sum (drop k xs)) one in
    omega (arith, h, e, now, next)

pub within : (xs : List Referent) (at sum v : ℕ) → at < length xs → length xs < 2 ^ 32 → Summed xs at sum → v ≡ value_of (cell_tree (slice_get xs at)) → sum + v < 2 ^ 64
within xs at sum v lt few h e =
    let now = left_at xs at lt in
    let all = sum_below xs in
    omega (arith, h, e, now, all, few)

drop_all : (xs : List Referent) (at : ℕ) → length xs ≤ at → values_sum (drop at xs) ≡ 0
drop_all [] zero le = refl
drop_all [] (suc at) le = refl
drop_all (x ∷ xs) zero le = absurd (omega (arith, le))
drop_all (x ∷ xs) (suc at) le = drop_all xs at (omega (arith, le))

pub all_summed : (xs : List Referent) (at sum : ℕ) → length xs ≤ at → Summed xs at sum → sum ≡ values_sum xs
all_summed xs at sum le h = let none_left = drop_all xs at le in omega (arith, h, none_left)
