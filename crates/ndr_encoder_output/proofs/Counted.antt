-- A count stays below its limit.
use Rattle.std.proofs.Common.{◌≡◌, ℕ, ◌+◌, ◌*◌, ◌<◌, ◌≤◌, ◌^◌, ℤ, List, [], ◌∷◌, ◌++◌, length, refl, ap, ap₂, sym, ◌∙◌, subst, arith, append_assoc}
use Rattle.std.specs.Prelude.{◌==◌}
use Rattle.nd_base.specs.declared.octets.Order.TheVariants.{Little}
use Rattle.nd_types.specs.declared.types.Primitive.{Primitive}
use Rattle.nd_types.specs.Table.{width}
use Rattle.nd_grammar.specs.Entry.{gap}
use Rattle.ndr_encoder_laws.proofs.pieces.Showing.{end_joined}
use Rattle.std.proofs.Math.Facts.{Fits-of_lt}
use mir.Val.{Fits}
use mir.Syntax.{w128}
use Rattle.ndr_encoder_laws.specs.pieces.Pieces.{Piece, Figure, Raw, four, gap_pieces, number_pieces, row_pieces, piece_size, piece_names, pieces_end, pieces_names}
use Rattle.ndr_encoder_output.specs.Counting.{CountCan, count_whole}
use Rattle.ndr_encoder_output.proofs.Rows.{row_end, rest_fits}
use Rattle.ndr_encoder_output.proofs.Filled.{grows}
use Rattle.ndr_encoder_laws.proofs.turns.Names.{gap_names}

-- there is room for the first piece
pub count_room : (at k : ℕ) (p : Piece) (ps : List Piece) → k ≡ piece_size at p → CountCan at (p ∷ ps) → Fits w128 (at + k)
count_room at k p ps e h =
    let g : at + piece_size at p ≤ pieces_end (at + piece_size at p) ps = grows (at + piece_size at p) ps in
    let low : at + k < 2 ^ 128 = omega (arith, g, h.0, e) in Fits-of_lt {w = w128} low

-- and for the two of a text
pub count_text : (at : ℕ) (os : List ℕ) (ps : List Piece) → CountCan at (four (length os + 1) ∷ Raw os ∷ ps) → Fits w128 (at + 4 + (length os + 1))
count_text at os ps h =
    let E : ℕ = at + 4 + (length os + 1) in
    let g : E ≤ pieces_end E ps = grows E ps in
    let low : E < 2 ^ 128 = omega (arith, g, h.0) in Fits-of_lt {w = w128} low

-- numbers name nothing
names_after : (xs ys : List Piece) → pieces_names xs ≡ [] → pieces_names (xs ++ ys) ≡ pieces_names ys
names_after xs ys e = joined xs ys ∙ ap (λ l. l ++ pieces_names ys) e
  where
    joined : (xs ys : List Piece) → pieces_names (xs ++ ys) ≡ pieces_names xs ++ pieces_names ys
    joined [] ys = refl
    joined (x ∷ xs) ys = ap (λ l. piece_names x ++ l) (joined xs ys) ∙ sym (append_assoc (piece_names x) (pieces_names xs) (pieces_names ys))

number_names : (p : Primitive) (z : ℤ) → pieces_names (number_pieces p z) ≡ []
number_names p z = names_after (gap_pieces (width p)) (Figure p z ∷ []) (gap_names (width p == 1) (width p))

row_names : (p : Primitive) (zs : List ℤ) → pieces_names (row_pieces p zs) ≡ []
row_names p [] = refl
row_names p (z ∷ zs) = names_after (number_pieces p z) (row_pieces p zs) (number_names p z) ∙ row_names p zs

-- a row was counted
module _ (p : Primitive) (zs : List ℤ) (at end count : ℕ) (names : List (ℕ × ℕ)) (some : 0 < count) (many : length zs ≡ count)
    (e : end ≡ at + gap at (width p) + count * width p) where
  row_ends : end ≡ pieces_end at (row_pieces p zs)
  row_ends =
      let any : 0 < length zs = omega (arith, some, many) in
      e ∙ ap (λ n. at + gap at (width p) + n * width p) (sym many) ∙ sym (row_end Little (λ c. c) p at zs any)

  pub row_same : (qs rest : List Piece) → count_whole end names (qs ++ rest) ≡ count_whole at names ((row_pieces p zs ++ qs) ++ rest)
  row_same qs rest =
      let xs : List Piece = row_pieces p zs in
      let moved : (xs ++ qs) ++ rest ≡ xs ++ (qs ++ rest) = append_assoc xs qs rest in
      ap (λ k. record { end = pieces_end k (qs ++ rest); octets = []; names = names ++ pieces_names (qs ++ rest); lent = 0; room = 0 }) row_ends
      ∙ ap₂ (λ k ns. record { end = k; octets = []; names = names ++ ns; lent = 0; room = 0 }) (sym (end_joined at xs (qs ++ rest)))
      (sym (names_after xs (qs ++ rest) (row_names p zs)))
      ∙ ap (count_whole at names) (sym moved)

  pub row_can : (qs rest : List Piece) → CountCan at ((row_pieces p zs ++ qs) ++ rest) → CountCan end (qs ++ rest)
  row_can qs rest h =
      let xs : List Piece = row_pieces p zs in
      let c : CountCan at (xs ++ (qs ++ rest)) = subst (CountCan at) (append_assoc xs qs rest) h in
      let ends : pieces_end end (qs ++ rest) ≡ pieces_end at (xs ++ (qs ++ rest)) = ap (λ k. pieces_end k (qs ++ rest)) row_ends ∙ sym (end_joined at xs (qs ++ rest)) in
      (omega (arith, ends, c.0), rest_fits xs (qs ++ rest) c.1)

-- there is room for a row
pub count_row : (p : Primitive) (zs : List ℤ) (at count : ℕ) (qs rest : List Piece) → 0 < count → length zs ≡ count → CountCan at ((row_pieces p zs ++ qs) ++ rest)
    → at + gap at (width p) + count * width p < 2 ^ 128
count_row p zs at count qs rest some many h =
    let any : 0 < length zs = omega (arith, some, many) in
    let xs : List Piece = row_pieces p zs in
    let c : CountCan at (xs ++ (qs ++ rest)) = subst (CountCan at) (append_assoc xs qs rest) h in
    let g : pieces_end at xs ≤ pieces_end (pieces_end at xs) (qs ++ rest) = grows (pieces_end at xs) (qs ++ rest) in
    let j : pieces_end at (xs ++ (qs ++ rest)) ≡ pieces_end (pieces_end at xs) (qs ++ rest) = end_joined at xs (qs ++ rest) in
    let e : pieces_end at xs ≡ at + gap at (width p) + count * width p = row_end Little (λ c. c) p at zs any ∙ ap (λ n. at + gap at (width p) + n * width p) many in
    omega (arith, g, j, e, c.0)

-- the gap of a row fits, and the row after it
pub row_gap_fits : (p : Primitive) (zs : List ℤ) (at count g : ℕ) (qs rest : List Piece) → 0 < count → length zs ≡ count → g ≡ gap at (width p)
    → CountCan at ((row_pieces p zs ++ qs) ++ rest) → Fits w128 (at + g)
row_gap_fits p zs at count g qs rest some many e h =
    let all : at + gap at (width p) + count * width p < 2 ^ 128 = count_row p zs at count qs rest some many h in
    let low : at + g < 2 ^ 128 = omega (arith, all, e) in Fits-of_lt {w = w128} low

pub row_end_fits : (p : Primitive) (zs : List ℤ) (at count g k : ℕ) (qs rest : List Piece) → 0 < count → length zs ≡ count → g ≡ gap at (width p) → k ≡ count * width p
    → CountCan at ((row_pieces p zs ++ qs) ++ rest) → Fits w128 (at + g + k)
row_end_fits p zs at count g k qs rest some many e f h =
    let all : at + gap at (width p) + count * width p < 2 ^ 128 = count_row p zs at count qs rest some many h in
    let low : at + g + k < 2 ^ 128 = omega (arith, all, e, f) in Fits-of_lt {w = w128} low
