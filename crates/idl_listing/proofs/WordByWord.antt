-- Lines that are written word by word.
use Rattle.std.proofs.Common.{◌≡◌, ◌∙◌, ℕ, List, [], ◌∷◌, ◌++◌, refl, ap, sym, append_assoc, codes}
use Rattle.std.proofs.lemmas.List.{append-nil}
use Rattle.idl_listing.specs.Listing.{spaced, line, behind}

-- a line is its first word with the others after it
pub spaced_first : (word : List ℕ) (words : List (List ℕ)) → spaced (word ∷ words) ≡ word ++ behind words
spaced_first word [] = sym (append-nil word)
spaced_first word (next ∷ words) =
    ap (λ t. word ++ codes " " ++ t) (spaced_first next words) ∙ append_assoc word (codes " ") (next ++ behind words)
    ∙ ap (λ t. word ++ t) (sym (append_assoc (codes " ") next (behind words)))

-- more words
pub behind_more : (xs ys : List (List ℕ)) → behind (xs ++ ys) ≡ behind xs ++ behind ys
behind_more [] ys = refl
behind_more (x ∷ xs) ys = ap (λ t. codes " " ++ x ++ t) (behind_more xs ys) ∙ sym (append_assoc (codes " " ++ x) (behind xs) (behind ys))

-- a word after a text
pub one_behind : (t word : List ℕ) → (t ++ codes " ") ++ word ≡ t ++ behind (word ∷ [])
one_behind t word = append_assoc t (codes " ") word ∙ ap (λ u. t ++ u) (sym (append-nil (codes " " ++ word)))

-- words after words
pub then_words : (base t : List ℕ) (xs ys : List (List ℕ)) → t ≡ base ++ behind xs → t ++ behind ys ≡ base ++ behind (xs ++ ys)
then_words base t xs ys e = ap (λ u. u ++ behind ys) e ∙ append_assoc base (behind xs) (behind ys) ∙ ap (λ u. base ++ u) (sym (behind_more xs ys))

-- the end of a line
pub then_end : (base first t : List ℕ) (words : List (List ℕ)) → t ≡ (base ++ first) ++ behind words → t ++ codes "\n" ≡ base ++ line (first ∷ words)
then_end base first t words e =
    ap (λ u. u ++ codes "\n") (e ∙ append_assoc base first (behind words) ∙ ap (λ u. base ++ u) (sym (spaced_first first words)))
    ∙ append_assoc base (spaced (first ∷ words)) (codes "\n")

-- the last word goes on
pub goes_on : (t word more : List ℕ) → t ++ behind (word ∷ []) ++ more ≡ t ++ behind ((word ++ more) ∷ [])
goes_on t word more =
    append_assoc t (behind (word ∷ [])) more
    ∙ ap (λ u. t ++ u)
    (ap (λ u. u ++ more) (append-nil (codes " " ++ word)) ∙ append_assoc (codes " ") word more ∙ sym (append-nil (codes " " ++ (word ++ more))))

-- the first word of a line
pub first_word : (base first : List ℕ) → base ++ first ≡ (base ++ first) ++ behind []
first_word base first = sym (append-nil (base ++ first))

-- a piece after pieces
pub then_piece : {X : Type 0} (base t xs ys : List X) → t ≡ base ++ xs → t ++ ys ≡ base ++ (xs ++ ys)
then_piece base t xs ys e = ap (λ u. u ++ ys) e ∙ append_assoc base xs ys
