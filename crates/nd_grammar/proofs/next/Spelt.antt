-- Entries that octets spell, under a numbering that is carried on to all cells.
use Rattle.std.proofs.Common.{◌≡◌, ℕ, ◌+◌, ◌<◌, ◌≤◌, ◌^◌, zero, suc, Bool, true, false, List, [], ◌∷◌, ◌++◌, length, Option, Some, None, refl, ap, sym, ◌∙◌, inl, inr, arith, subst, take, drop}
use Rattle.std.proofs.Common.{length-append}
use Rattle.std.specs.Prelude.{eqb, cond}
use Rattle.std.specs.List.{AllByRecursion}
use Rattle.std.proofs.lemmas.Bool.{eqb-true, eq-eqb}
use Rattle.nd_base.specs.declared.octets.Order.{Order}
use Rattle.nd_types.specs.declared.types.Class.{Class}
use Rattle.nd_types.specs.declared.types.Class.TheVariants.{Ref, Unique, Full}
use Rattle.nd_types.specs.Number.{unsigned}
use Rattle.nd_value.specs.Setting.{Among}
use Rattle.nd_value.proofs.Apart.{among_left, among_right}
use Rattle.nd_grammar.specs.Entry.{Kind, Entry, Align, Max, Offset, Actual, Chunk, Number, Num, Tag, Text, Context, Test, Unread, size_at, EntryAt, end_to_end, end_of, full_cell, full_cells}
use Rattle.nd_grammar.specs.Stream.{piece, Spells, IsRendered, IsNumber, IsNumbering}
use Rattle.nd_grammar.specs.NextMark.{form}
use Rattle.nd_grammar.proofs.next.Next.{IsUnread, Pair, Readings, Next}
use Rattle.nd_grammar.proofs.next.Forms.{size_form}

-- whether a cell is among these
abbrev has_cell : List ℕ → ℕ → Bool
has_cell [] c = false
has_cell (d ∷ ds) c = cond (eqb c d) true (has_cell ds c)

has_among : (ds : List ℕ) (c : ℕ) → has_cell ds c ≡ true → Among ds c
has_among [] c h = cc
has_among (d ∷ ds) c h = go (eqb c d) refl h (has_among ds c)
  where
    go : (b : Bool) → eqb c d ≡ b → cond b true (has_cell ds c) ≡ true → (has_cell ds c ≡ true → Among ds c) → Among (d ∷ ds) c
    go true e h r = inl (eqb-true c d e)
    go false e h r = inr (r h)

among_has : (ds : List ℕ) (c : ℕ) → Among ds c → has_cell ds c ≡ true
among_has [] c h = absurd h
among_has (d ∷ ds) c (inl e) = ap (λ b. cond b true (has_cell ds c)) (eq-eqb c d e)
among_has (d ∷ ds) c (inr h) = go (eqb c d) (among_has ds c h)
  where
    go : (b : Bool) → has_cell ds c ≡ true → cond b true (has_cell ds c) ≡ true
    go true e = refl
    go false e = e

-- a numbering of some cells, and of all others with numbers that no stream has
abbrev pub carried_on : (ℕ → ℕ) → List ℕ → ℕ → ℕ
carried_on numbering cells c = cond (has_cell cells c) (numbering c) (2 ^ 32 + c)

pub carried_same : (numbering : ℕ → ℕ) (cells : List ℕ) (c : ℕ) → Among cells c → carried_on numbering cells c ≡ numbering c
carried_same numbering cells c a = ap (λ b. cond b (numbering c) (2 ^ 32 + c)) (among_has cells c a)

module _ (numbering : ℕ → ℕ) (cells : List ℕ) (is : IsNumbering numbering cells) where
  pub carried_low : (c : ℕ) → 0 < carried_on numbering cells c
  carried_low c = go (has_cell cells c) refl
    where
      go : (b : Bool) → has_cell cells c ≡ b → 0 < cond b (numbering c) (2 ^ 32 + c)
      go true e = (is.in_range c (has_among cells c e)).0
      go false e = omega arith

  pub carried_one : (c d : ℕ) → carried_on numbering cells c ≡ carried_on numbering cells d → c ≡ d
  carried_one c d e = go (has_cell cells c) (has_cell cells d) refl refl e
    where
      go : (x y : Bool) → has_cell cells c ≡ x → has_cell cells d ≡ y → cond x (numbering c) (2 ^ 32 + c) ≡ cond y (numbering d) (2 ^ 32 + d) → c ≡ d
      go true true ex ey f = is.one_to_one c d (has_among cells c ex) (has_among cells d ey) f
      go false false ex ey f = omega arith
      go true false ex ey f = let h = (is.in_range c (has_among cells c ex)).1 in absurd (omega arith)
      go false true ex ey f = let h = (is.in_range d (has_among cells d ey)).1 in absurd (omega arith)

-- entries that are spelt under the numbering are spelt under the one that is carried on
same_number : (nums nums' : ℕ → ℕ) (k : Class) (c : Option ℕ) (to v : ℕ) → ((d : ℕ) → Among (full_cell (Number k to c)) d → nums d ≡ nums' d)
    → IsNumber nums k c v → IsNumber nums' k c v
same_number nums nums' Full None to v e h = h
same_number nums nums' Ref None to v e h = h
same_number nums nums' Unique None to v e h = h
same_number nums nums' Full (Some c) to v e h = h ∙ e c (inl refl)
same_number nums nums' Unique (Some c) to v e h = h
same_number nums nums' Ref (Some c) to v e h = h

same_spelling : (order : Order) (nums nums' : ℕ → ℕ) (x : Kind) (os : List ℕ) → ((d : ℕ) → Among (full_cell x) d → nums d ≡ nums' d)
    → Spells order nums x os → Spells order nums' x os
same_spelling order nums nums' (Number k to c) os e h = same_number nums nums' k c to (unsigned order os) e h
same_spelling order nums nums' (Align n) os e h = h
same_spelling order nums nums' (Max v) os e h = h
same_spelling order nums nums' (Offset t v) os e h = h
same_spelling order nums nums' (Actual t o l v) os e h = h
same_spelling order nums nums' (Chunk v) os e h = h
same_spelling order nums nums' (Num p vs z) os e h = h
same_spelling order nums nums' (Tag p vs arms default z) os e h = h
same_spelling order nums nums' (Text t) os e h = h
same_spelling order nums nums' (Context a i) os e h = h
same_spelling order nums nums' (Test a w f) os e h = h
same_spelling order nums nums' Unread os e h = h

pub spelt_carried : (order : Order) (octets : List ℕ) (numbering : ℕ → ℕ) (cells : List ℕ) (x : EntryAt)
    → ((d : ℕ) → Among (full_cell x.entry.kind) d → Among cells d)
    → IsRendered order numbering octets x → IsRendered order (carried_on numbering cells) octets x
spelt_carried order octets numbering cells x a r =
    (r.0, same_spelling order numbering (carried_on numbering cells) x.entry.kind (piece octets x.at x.entry.kind) (λ d h. sym (carried_same numbering cells d (a d h))) r.1)

-- each entry's cells are among those of all
abbrev pub CellsIn : List ℕ → EntryAt → Type 0
CellsIn cells x = (d : ℕ) → Among (full_cell x.entry.kind) d → Among cells d

pub cells_in : (at : ℕ) (ms : List Entry) (cells : List ℕ) → ((d : ℕ) → Among (full_cells ms) d → Among cells d)
    → AllByRecursion (CellsIn cells) (end_to_end at ms)
cells_in at [] cells h = tt
cells_in at (m ∷ ms) cells h = (
  (λ d a. h d (among_left (full_cell m.kind) (full_cells ms) d a)),
  cells_in (at + size_at at m.kind) ms cells (λ d a. h d (among_right (full_cell m.kind) (full_cells ms) d a)),
)

pub all_spelt_carried : (order : Order) (octets : List ℕ) (numbering : ℕ → ℕ) (cells : List ℕ) (xs : List EntryAt) → AllByRecursion (CellsIn cells) xs
    → AllByRecursion (IsRendered order numbering octets) xs → AllByRecursion (IsRendered order (carried_on numbering cells) octets) xs
all_spelt_carried order octets numbering cells [] a b = tt
all_spelt_carried order octets numbering cells (x ∷ xs) a b =
    (spelt_carried order octets numbering cells x a.0 b.0, all_spelt_carried order octets numbering cells xs a.1 b.1)

-- no octets spell an unread value
pub not_spelt : (order : Order) (nums : ℕ → ℕ) (octets : List ℕ) (at : ℕ) (m : Entry) → IsUnread m → IsRendered order nums octets (record { at = at; entry = m }) → ⊥
not_spelt order nums octets at m u r = subst (λ k. Spells order nums k (piece octets at m.kind)) u r.1

pub same_size : (at : ℕ) (x y : Kind) → form x ≡ form y → size_at at x ≡ size_at at y
same_size at x y e = sym (size_form at x) ∙ ap (size_at at) e ∙ size_form at y

module _ (two : Readings) (W X : List Pair → Type 0) where
  abbrev Left : EntryAt → Type 0
  Left = IsRendered two.order two.left two.octets

  abbrev Right : EntryAt → Type 0
  Right = IsRendered two.order two.right two.octets

  -- two lists of entries that are both spelt whole end at one place, and X holds of the map
  pub spelt_whole : (map : List Pair) (at : ℕ) (ms ns : List Entry) → Next two W X map at ms ns
      → AllByRecursion Left (end_to_end at ms) → AllByRecursion Right (end_to_end at ns)
      → (ys : List Pair) × W ys × X ys × (end_of at ms ≡ end_of at ns)
  spelt_whole map at [] [] (new, one, x) a b = (new ++ map, one, x, refl)
  spelt_whole map at [] (n ∷ ns) u a b = absurd (not_spelt two.order two.right two.octets at n u b.0)
  spelt_whole map at (m ∷ ms) [] u a b = absurd (not_spelt two.order two.left two.octets at m u a.0)
  spelt_whole map at (m ∷ ms) (n ∷ ns) (inl u) a b = absurd (not_spelt two.order two.left two.octets at m u a.0)
  spelt_whole map at (m ∷ ms) (n ∷ ns) (inr (inl u)) a b = absurd (not_spelt two.order two.right two.octets at n u b.0)
  spelt_whole map at (m ∷ ms) (n ∷ ns) (inr (inr (new, one, meet, alike, k))) a b =
      let e : at + size_at at m.kind ≡ at + size_at at n.kind = ap (λ u. at + u) (same_size at m.kind n.kind alike.1) in
      let b' : AllByRecursion Right (end_to_end (at + size_at at m.kind) ns) = subst (λ u. AllByRecursion Right (end_to_end u ns)) (sym e) b.1 in
      let (ys, o, x, f) = spelt_whole (new ++ map) (at + size_at at m.kind) ms ns (k a.0 b.0) a.1 b' in
      (ys, o, x, f ∙ ap (λ u. end_of u ns) e)

-- what is spelt in a first part of the octets is spelt in them
take_left : (n : ℕ) (xs ys : List ℕ) → n ≤ length xs → take n (xs ++ ys) ≡ take n xs
take_left zero xs ys h = refl
take_left (suc n) [] ys h = absurd (omega arith)
take_left (suc n) (x ∷ xs) ys h = ap (λ u. x ∷ u) (take_left n xs ys (omega arith))

pub piece_left : (at n : ℕ) (xs ys : List ℕ) → at + n ≤ length xs → take n (drop at (xs ++ ys)) ≡ take n (drop at xs)
piece_left zero n xs ys h = take_left n xs ys (omega arith)
piece_left (suc at) zero [] ys h = absurd (omega arith)
piece_left (suc at) (suc n) [] ys h = absurd (omega arith)
piece_left (suc at) n (x ∷ xs) ys h = let k : at + n ≤ length xs = omega arith in piece_left at n xs ys k

pub spelt_in_more : (order : Order) (nums : ℕ → ℕ) (xs ys : List ℕ) (es : List EntryAt) → AllByRecursion (IsRendered order nums xs) es
    → AllByRecursion (IsRendered order nums (xs ++ ys)) es
spelt_in_more order nums xs ys [] a = tt
spelt_in_more order nums xs ys (x ∷ es) a =
    let e : piece (xs ++ ys) x.at x.entry.kind ≡ piece xs x.at x.entry.kind = piece_left x.at (size_at x.at x.entry.kind) xs ys a.0.0 in
    let l : x.at + size_at x.at x.entry.kind ≤ length (xs ++ ys) = omega (arith, length-append xs ys, a.0.0) in
    ((l, subst (Spells order nums x.entry.kind) (sym e) a.0.1), spelt_in_more order nums xs ys es a.1)
