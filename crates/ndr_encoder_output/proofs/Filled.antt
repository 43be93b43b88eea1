-- What one write does to octets that are written from the front on.
use Rattle.std.proofs.Common.{◌≡◌, ℕ, ◌+◌, ◌-◌, ◌*◌, ◌<◌, ◌≤◌, ℤ, List, [], ◌∷◌, ◌++◌, length, ap, ap₂, sym, ◌∙◌, subst, take, arith, append_assoc, append-nil}
use Rattle.std.specs.Prelude.{replicate}
use Rattle.std.proofs.lemmas.List.{take_all}
use Rattle.nd_base.specs.declared.octets.Order.{Order}
use Rattle.nd_base.specs.declared.octets.Order.TheVariants.{Little}
use Rattle.nd_types.specs.declared.types.Primitive.{Primitive}
use Rattle.nd_types.specs.Table.{width}
use Rattle.nd_grammar.specs.Entry.{gap}
use Rattle.ndr_encoder_laws.specs.pieces.Pieces.{Piece, piece_size, pieces_end, pieces_octets, row_pieces}
use Rattle.ndr_encoder_laws.proofs.pieces.Showing.{end_joined, octets_joined}
use Rattle.ndr_encoder_output.specs.Filling.{fill_whole, FillCan, written_all}
use Rattle.ndr_encoder_output.proofs.Rows.{rest_fits, row_octets, row_end}

pub grows : (at : ℕ) (xs : List Piece) → at ≤ pieces_end at xs
grows at [] = omega arith
grows at (x ∷ xs) = let h : at + piece_size at x ≤ pieces_end (at + piece_size at x) xs = grows (at + piece_size at x) xs in omega (arith, h)

-- there is room for the first of pieces
pub room_for : (at : ℕ) (os : List ℕ) (p : Piece) (ps : List Piece) → FillCan at os (p ∷ ps) → at + piece_size at p ≤ length os
room_for at os p ps h = let g : at + piece_size at p ≤ pieces_end (at + piece_size at p) ps = grows (at + piece_size at p) ps in omega (arith, g, h.0)

-- a text was written, part by part
pub text_is : (a b c d S os : List ℕ) → b ≡ a ++ S → c ≡ b ++ os → d ≡ c ++ 0 ∷ [] → d ≡ a ++ (S ++ (os ++ 0 ∷ []))
text_is a b c d S os e f g =
    g ∙ ap (λ l. l ++ 0 ∷ []) (f ∙ ap (λ l. l ++ os) e) ∙ ap (λ l. l ++ 0 ∷ []) (append_assoc a S os) ∙ append_assoc a (S ++ os) (0 ∷ [])
    ∙ ap (λ l. a ++ l) (append_assoc S os (0 ∷ []))

pub room_two : (at : ℕ) (os : List ℕ) (p q : Piece) (ps : List Piece) → FillCan at os (p ∷ q ∷ ps) → at + piece_size at p + piece_size (at + piece_size at p) q ≤ length os
room_two at os p q ps h =
    let E : ℕ = at + piece_size at p in
    let g : E + piece_size E q ≤ pieces_end (E + piece_size E q) ps = grows (E + piece_size E q) ps in omega (arith, g, h.0)

-- several pieces were written
module _ (lent : ℕ) (order : Order) (num : ℕ → ℕ) (at end : ℕ) (os new : List ℕ) (xs : List Piece) (e : end ≡ pieces_end at xs) (l : length new ≡ length os)
    (h : take end new ≡ take at os ++ pieces_octets order num at xs) where
  pub all_written : (ps : List Piece) → fill_whole lent order num end new ps ≡ fill_whole lent order num at os (xs ++ ps)
  all_written ps =
      let E : ℕ = pieces_end at xs in
      let P : List ℕ = pieces_octets order num at xs in
      ap (λ k. record { end = pieces_end k ps; octets = take end new ++ pieces_octets order num k ps; names = []; lent = lent; room = length new }) e
      ∙ ap (λ k. record { end = pieces_end E ps; octets = take end new ++ pieces_octets order num E ps; names = []; lent = lent; room = k }) l
      ∙ ap (λ q. record { end = pieces_end E ps; octets = q ++ pieces_octets order num E ps; names = []; lent = lent; room = length os }) h
      ∙ ap (λ q. record { end = pieces_end E ps; octets = q; names = []; lent = lent; room = length os })
      (append_assoc (take at os) P (pieces_octets order num E ps) ∙ ap (λ q. take at os ++ q) (sym (octets_joined order num at xs ps)))
      ∙ ap (λ k. record { end = k; octets = take at os ++ pieces_octets order num at (xs ++ ps); names = []; lent = lent; room = length os }) (sym (end_joined at xs ps))

  pub all_can : (ps : List Piece) → FillCan at os (xs ++ ps) → FillCan end new ps
  all_can ps c =
      (let g : pieces_end end ps ≡ pieces_end at (xs ++ ps) = ap (λ k. pieces_end k ps) e ∙ sym (end_joined at xs ps) in omega (arith, g, l, c.0), rest_fits xs ps c.1)

-- there is room for several pieces
pub room_all : (at : ℕ) (os : List ℕ) (xs ps : List Piece) → FillCan at os (xs ++ ps) → pieces_end at xs ≤ length os
room_all at os xs ps h =
    let g : pieces_end at xs ≤ pieces_end (pieces_end at xs) ps = grows (pieces_end at xs) ps in
    let e : pieces_end at (xs ++ ps) ≡ pieces_end (pieces_end at xs) ps = end_joined at xs ps in omega (arith, g, e, h.0)

-- all pieces were written, and fill the octets
pub all_filled : (lent to : ℕ) (order other : Order) (num more : ℕ → ℕ) (at : ℕ) (os new : List ℕ) (ps : List Piece) → pieces_end 0 ps ≡ length os
    → fill_whole to other more at new [] ≡ fill_whole lent order num 0 os (ps ++ []) → (to ≡ lent) × (new ≡ pieces_octets order num 0 ps)
all_filled lent to order other num more at os new ps long e =
    let same : ps ++ [] ≡ ps = append-nil ps in
    let at_end : at ≡ pieces_end 0 ps = ap (λ w. w.end) e ∙ ap (pieces_end 0) same in
    let room : length new ≡ length os = ap (λ w. w.room) e in
    let octets : take at new ++ [] ≡ pieces_octets order num 0 (ps ++ []) = ap (λ w. w.octets) e in (
      ap (λ w. w.lent) e,
      sym (take_all at new (omega (arith, at_end, room, long))) ∙ sym (append-nil (take at new)) ∙ octets ∙ ap (pieces_octets order num 0) same,
    )

-- a row was written: its gap, and then its numbers
pub row_written : (order : Order) (num : ℕ → ℕ) (p : Primitive) (zs : List ℤ) (at start end count : ℕ) (os mid new : List ℕ) → 0 < count → length zs ≡ count
    → start ≡ at + gap at (width p) → end ≡ start + count * width p → take start mid ≡ take at os ++ replicate {A = ℕ} (gap at (width p)) 0
    → take end new ≡ take start mid ++ written_all order p zs
    → (end ≡ pieces_end at (row_pieces p zs)) × (take end new ≡ take at os ++ pieces_octets order num at (row_pieces p zs))
row_written order num p zs at start end count os mid new some many e f g h =
    let any : 0 < length zs = omega (arith, some, many) in
    let G : List ℕ = replicate {A = ℕ} (gap at (width p)) 0 in (
      f ∙ ap₂ (λ k n. k + n * width p) e (sym many) ∙ sym (row_end order num p at zs any),
      h ∙ ap (λ l. l ++ written_all order p zs) g ∙ append_assoc (take at os) G (written_all order p zs) ∙ ap (λ l. take at os ++ l) (sym (row_octets order num p at zs any)),
    )

-- there is room for the gap of a row, and for its numbers after it
pub row_room : (p : Primitive) (zs : List ℤ) (at count w : ℕ) (os : List ℕ) (qs rest : List Piece) → 0 < count → length zs ≡ count → w ≡ width p
    → FillCan at os ((row_pieces p zs ++ qs) ++ rest) → at + gap at w + count * width p ≤ length os
row_room p zs at count w os qs rest some many wide h =
    let any : 0 < length zs = omega (arith, some, many) in
    let xs : List Piece = row_pieces p zs in
    let whole : pieces_end at xs ≤ length os = room_all at os xs (qs ++ rest) (subst (FillCan at os) (append_assoc xs qs rest) h) in
    let e : pieces_end at xs ≡ at + gap at w + count * width p =
    row_end Little (λ c. c) p at zs any ∙ ap₂ (λ v n. at + gap at v + n * width p) (sym wide) many in
    omega (arith, whole, e)

module _ (lent : ℕ) (order : Order) (num : ℕ → ℕ) (at end : ℕ) (os new : List ℕ) (xs : List Piece) (e : end ≡ pieces_end at xs) (l : length new ≡ length os)
    (h : take end new ≡ take at os ++ pieces_octets order num at xs) where
  pub pieces_same : (qs rest : List Piece) → fill_whole lent order num end new (qs ++ rest) ≡ fill_whole lent order num at os ((xs ++ qs) ++ rest)
  pieces_same qs rest = all_written lent order num at end os new xs e l h (qs ++ rest) ∙ ap (fill_whole lent order num at os) (sym (append_assoc xs qs rest))

  pub pieces_can : (qs rest : List Piece) → FillCan at os ((xs ++ qs) ++ rest) → FillCan end new (qs ++ rest)
  pieces_can qs rest c = all_can lent order num at end os new xs e l h (qs ++ rest) (subst (FillCan at os) (append_assoc xs qs rest) c)
