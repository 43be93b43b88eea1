-- Gaps whose octets are not all zero: what is shown of them, and how many they are, counted one item at a time.
-- `xs` are items, `x` is one of them, `octets` are those of a stream.
use Rattle.std.proofs.Common.{◌≡◌, ℕ, ◌+◌, ◌≤◌, Bool, true, false, List, [], ◌++◌, codes, drop, length, Some, ap, arith, sym}
use Rattle.std.specs.List.{slice_get}
use Rattle.nd_value.specs.declared.item.Item.{Item}
use Rattle.text_grammar.specs.Written.{hex_text}
use Rattle.nd_lemmas.proofs.Lists.{drop_next, drop_past}
use Rattle.ndr_explain.specs.Explained.{are_zero, filled, filled_gaps, gap_shown}

-- one item more is counted
pub counted_next : (octets : List ℕ) (xs : List Item) (i : ℕ) (x : Item) (n m r : ℕ) → slice_get xs i ≡ Some x → r ≡ filled octets x.kind x → m ≡ n + r
    → n + filled_gaps octets (drop i xs) ≡ filled_gaps octets xs → m + filled_gaps octets (drop (i + 1) xs) ≡ filled_gaps octets xs
counted_next octets xs i x n m r there is more so_far =
    let e : filled_gaps octets (drop i xs) ≡ filled octets x.kind x + filled_gaps octets (drop (i + 1) xs) = ap (filled_gaps octets) (drop_next xs i x there) in
    omega (arith, e, is, more, so_far)

abbrev as_count : Bool → ℕ
as_count b = elim b [ true ↦ 0 | false ↦ 1 ]

pub none_of : (os : List ℕ) → are_zero os ≡ true → ◌≡◌ {A = ℕ} 0 (elim (are_zero os) [ true ↦ 0 | false ↦ 1 ])
none_of os e = sym (ap as_count e)

pub one_of : (os : List ℕ) → are_zero os ≡ false → ◌≡◌ {A = ℕ} 1 (elim (are_zero os) [ true ↦ 0 | false ↦ 1 ])
one_of os e = sym (ap as_count e)

pub no_gap_shown : (os : List ℕ) → are_zero os ≡ true → gap_shown os ≡ []
no_gap_shown os e = ap (λ b. elim b [ true ↦ [] | false ↦ codes " x\"" ++ (hex_text os ++ codes "\"") ]) e

pub gap_is : (os : List ℕ) → are_zero os ≡ false → gap_shown os ≡ codes " x\"" ++ (hex_text os ++ codes "\"")
gap_is os e = ap (λ b. elim b [ true ↦ [] | false ↦ codes " x\"" ++ (hex_text os ++ codes "\"") ]) e

-- all are counted
pub counted_all : (octets : List ℕ) (xs : List Item) (i n : ℕ) → length xs ≤ i → n + filled_gaps octets (drop i xs) ≡ filled_gaps octets xs → n ≡ filled_gaps octets xs
counted_all octets xs i n over so_far =
    let none : filled_gaps octets (drop i xs) ≡ 0 = ap (filled_gaps octets) (drop_past xs i over) in
    omega (arith, none, so_far)
