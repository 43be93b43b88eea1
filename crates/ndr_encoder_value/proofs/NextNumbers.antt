-- The next nodes as numbers.
use Rattle.std.proofs.Common.{◌≡◌, ℕ, ◌+◌, ◌-◌, ◌<◌, ◌≤◌, zero, suc, ℤ, true, false, List, [], ◌∷◌, ◌++◌, length, refl, ap, ap₂, sym, ◌∙◌, arith, append_assoc}
use Rattle.std.specs.Prelude.{◌==◌}
use Rattle.std.proofs.lemmas.Bool.{ne_eqb}
use Rattle.nd_types.specs.declared.types.Primitive.{Primitive}
use Rattle.nd_types.specs.Table.{width}
use Rattle.nd_value.specs.Tree.{Flat}
use Rattle.nd_flat.specs.FlatForm.{num_flats}
use Rattle.ndr_encoder_laws.specs.pieces.Pieces.{Piece, Gap, Figure, gap_pieces, number_pieces, row_pieces}
use Rattle.ndr_encoder_laws.specs.written.Run.{here, later, num_in, numbers, after}

-- a number of more than one octet
pub number_after : (to : ℕ) (p : Primitive) (z : ℤ) (qs : List Piece) → to ≡ width p → 1 < to → number_pieces p z ++ qs ≡ Gap to ∷ Figure p z ∷ qs
number_after to p z qs e some =
    let other : (to == 1) ≡ false = ne_eqb to 1 (λ one. absurd (omega (arith, some, one))) in
    ap (λ n. (gap_pieces n ++ Figure p z ∷ []) ++ qs) (sym e) ∙ ap (λ b. ((elim b as (λ _. List Piece) [ true ↦ [] | false ↦ Gap to ∷ [] ]) ++ Figure p z ∷ []) ++ qs) other

-- numbers that come next, and the nodes after them
pub numbers_of_row : (zs : List ℤ) (gs : List Flat) (n : ℕ) → numbers (length zs + n) (num_flats zs ++ gs) ≡ zs ++ numbers n gs
numbers_of_row [] gs n = ap (λ k. numbers k gs) (let e : 0 + n ≡ n = omega arith in e)
numbers_of_row (z ∷ zs) gs n =
    ap (λ k. numbers k (num_flats (z ∷ zs) ++ gs)) (let e : suc (length zs) + n ≡ suc (length zs + n) = omega arith in e)
    ∙ ap (λ l. z ∷ l) (numbers_of_row zs gs n)

pub after_row : (zs : List ℤ) (gs : List Flat) (n : ℕ) → after (length zs + n) (num_flats zs ++ gs) ≡ after n gs
after_row [] gs n = ap (λ k. after k gs) (let e : 0 + n ≡ n = omega arith in e)
after_row (z ∷ zs) gs n =
    ap (λ k. after k (num_flats (z ∷ zs) ++ gs)) (let e : suc (length zs) + n ≡ suc (length zs + n) = omega arith in e)
    ∙ after_row zs gs n

pub pieces_of_row : (p : Primitive) (zs ys : List ℤ) (qs : List Piece) → row_pieces p (zs ++ ys) ++ qs ≡ row_pieces p zs ++ (row_pieces p ys ++ qs)
pieces_of_row p [] ys qs = refl
pieces_of_row p (z ∷ zs) ys qs =
    append_assoc (number_pieces p z) (row_pieces p (zs ++ ys)) qs ∙ ap (λ l. number_pieces p z ++ l) (pieces_of_row p zs ys qs)
    ∙ sym (append_assoc (number_pieces p z) (row_pieces p zs) (row_pieces p ys ++ qs))

-- of `most` numbers a row comes first
pub row_first : (p : Primitive) (zs : List ℤ) (fs gs : List Flat) (count most : ℕ) (qs : List Piece) → fs ≡ num_flats zs ++ gs → length zs ≡ count → count ≤ most
    → row_pieces p (numbers most fs) ++ qs ≡ row_pieces p zs ++ (row_pieces p (numbers (most - count) gs) ++ qs)
row_first p zs fs gs count most qs e long few =
    let whole : most ≡ length zs + (most - count) = omega (arith, long, few) in
    ap (λ k. row_pieces p (numbers k fs) ++ qs) whole ∙ ap (λ l. row_pieces p (numbers (length zs + (most - count)) l) ++ qs) e
    ∙ ap (λ l. row_pieces p l ++ qs) (numbers_of_row zs gs (most - count)) ∙ pieces_of_row p zs (numbers (most - count) gs) qs

pub rest_first : (zs : List ℤ) (fs gs : List Flat) (count most : ℕ) → fs ≡ num_flats zs ++ gs → length zs ≡ count → count ≤ most → after most fs ≡ after (most - count) gs
rest_first zs fs gs count most e long few =
    let whole : most ≡ length zs + (most - count) = omega (arith, long, few) in
    ap (λ k. after k fs) whole ∙ ap (after (length zs + (most - count))) e ∙ after_row zs gs (most - count)

-- or one number
pub one_first : (p : Primitive) (fs gs : List Flat) (most : ℕ) (qs : List Piece) → gs ≡ later fs → 0 < most
    → row_pieces p (numbers most fs) ++ qs ≡ number_pieces p (num_in (here fs).0) ++ (row_pieces p (numbers (most - 1) gs) ++ qs)
one_first p fs gs zero qs e some = absurd (omega (arith, some))
one_first p fs gs (suc most) qs e some =
    let n : suc most - 1 ≡ most = omega arith in
    append_assoc (number_pieces p (num_in (here fs).0)) (row_pieces p (numbers most (later fs))) qs
    ∙ ap₂ (λ l k. number_pieces p (num_in (here fs).0) ++ (row_pieces p (numbers k l) ++ qs)) (sym e) (sym n)
