-- Lines, words and instructions that are written item by item.
use Rattle.std.proofs.Common.{◌≡◌, ◌∙◌, ℕ, ◌+◌, ◌≤◌, List, [], ◌∷◌, ◌++◌, Some, ap, sym, map, drop, length, append_assoc, append-nil}
use Rattle.std.specs.List.{flat_map, enumerate_from, slice_get}
use Rattle.std.proofs.lemmas.List.{drop_more, drop_all}
use Rattle.std.proofs.lemmas.Option.{slice_get_within, get_or_from_slice_get}
use Rattle.idl_listing.specs.Listing.{behind}
use Rattle.idl_listing.proofs.WordByWord.{behind_more}

-- what is left begins with the next item
pub left_is : {X : Type 0} (xs : List X) (i : ℕ) (x : X) → slice_get xs i ≡ Some x → x ∷ drop (i + 1) xs ≡ drop i xs
left_is xs i x e =
    ap (λ y. y ∷ drop (i + 1) xs) (sym (get_or_from_slice_get xs i x x e)) ∙ sym (drop_more xs i x (slice_get_within xs i x e))

-- a line of the next item
pub line_more : {X Y : Type 0} (f : X → List Y) (xs : List X) (i : ℕ) (x : X) (text : List Y) → slice_get xs i ≡ Some x
    → text ++ f x ++ flat_map f (drop (i + 1) xs) ≡ text ++ flat_map f (drop i xs)
line_more f xs i x text e =
    append_assoc text (f x) (flat_map f (drop (i + 1) xs)) ∙ ap (λ l. text ++ flat_map f l) (left_is xs i x e)

-- no line is left
pub line_end : {X Y : Type 0} (f : X → List Y) (xs : List X) (i : ℕ) (text : List Y) → length xs ≤ i → text ++ flat_map f (drop i xs) ≡ text
line_end f xs i text past = ap (λ l. text ++ flat_map f l) (drop_all i xs past) ∙ append-nil text

-- lines of the next item with its number
pub counted_more : {X Y : Type 0} (f : ℕ × X → List Y) (xs : List X) (i : ℕ) (x : X) (text : List Y) → slice_get xs i ≡ Some x
    → text ++ f (i, x) ++ flat_map f (enumerate_from (i + 1) (drop (i + 1) xs)) ≡ text ++ flat_map f (enumerate_from i (drop i xs))
counted_more f xs i x text e =
    append_assoc text (f (i, x)) (flat_map f (enumerate_from (i + 1) (drop (i + 1) xs)))
    ∙ ap (λ l. text ++ flat_map f (enumerate_from i l)) (left_is xs i x e)

pub counted_end : {X Y : Type 0} (f : ℕ × X → List Y) (xs : List X) (i : ℕ) (text : List Y) → length xs ≤ i
    → text ++ flat_map f (enumerate_from i (drop i xs)) ≡ text
counted_end f xs i text past = ap (λ l. text ++ flat_map f (enumerate_from i l)) (drop_all i xs past) ∙ append-nil text

-- the word of the next item
pub word_more : {X : Type 0} (f : X → List ℕ) (xs : List X) (i : ℕ) (x : X) (text : List ℕ) → slice_get xs i ≡ Some x
    → text ++ behind (f x ∷ []) ++ behind (map f (drop (i + 1) xs)) ≡ text ++ behind (map f (drop i xs))
word_more f xs i x text e =
    append_assoc text (behind (f x ∷ [])) (behind (map f (drop (i + 1) xs)))
    ∙ ap (λ u. text ++ u) (sym (behind_more (f x ∷ []) (map f (drop (i + 1) xs))))
    ∙ ap (λ l. text ++ behind (map f l)) (left_is xs i x e)

pub word_end : {X : Type 0} (f : X → List ℕ) (xs : List X) (i : ℕ) (text : List ℕ) → length xs ≤ i → text ++ behind (map f (drop i xs)) ≡ text
word_end f xs i text past = ap (λ l. text ++ behind (map f l)) (drop_all i xs past) ∙ append-nil text

-- the words of the next item
pub words_more : {X : Type 0} (f : X → List (List ℕ)) (xs : List X) (i : ℕ) (x : X) (text : List ℕ) → slice_get xs i ≡ Some x
    → text ++ behind (f x) ++ behind (flat_map f (drop (i + 1) xs)) ≡ text ++ behind (flat_map f (drop i xs))
words_more f xs i x text e =
    append_assoc text (behind (f x)) (behind (flat_map f (drop (i + 1) xs)))
    ∙ ap (λ u. text ++ u) (sym (behind_more (f x) (flat_map f (drop (i + 1) xs))))
    ∙ ap (λ l. text ++ behind (flat_map f l)) (left_is xs i x e)

pub words_end : {X : Type 0} (f : X → List (List ℕ)) (xs : List X) (i : ℕ) (text : List ℕ) → length xs ≤ i
    → text ++ behind (flat_map f (drop i xs)) ≡ text
words_end f xs i text past = ap (λ l. text ++ behind (flat_map f l)) (drop_all i xs past) ∙ append-nil text
