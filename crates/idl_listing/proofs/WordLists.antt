-- The words of a type's line, and the digits of base 16.
use Rattle.std.proofs.Common.{◌≡◌, ◌∙◌, ℕ, zero, suc, ◌-◌, ◌/◌, ◌%◌, ◌≤◌, List, [], ◌∷◌, ◌++◌, ap, sym, append_assoc, codes, arith}
use Rattle.idl_listing.specs.Listing.{line, hex_digit, hex_digits}

-- the words of a type's line
pub type_words : (t : List ℕ) (form tail : List (List ℕ)) (number align : List ℕ)
    → t ++ line (codes "type" ∷ number ∷ form ++ codes "align" ∷ [] ++ align ∷ [] ++ tail) ≡ t ++ line (codes "type" ∷ number ∷ form ++ codes "align" ∷ align ∷ tail)
type_words t form tail number align =
    ap (λ ws. t ++ line (codes "type" ∷ number ∷ ws)) (append_assoc (form ++ codes "align" ∷ []) (align ∷ []) tail ∙ append_assoc form (codes "align" ∷ []) (align ∷ tail))

-- the last digit stands after the others
pub last_digit : (k n : ℕ) → 1 ≤ k → hex_digits k n ≡ hex_digits (k - 1) (n / 16) ++ hex_digit (n % 16) ∷ []
last_digit zero n h = absurd (omega (arith, h))
last_digit (suc k) n h = let e : suc k - 1 ≡ k = omega arith in ap (λ j. hex_digits j (n / 16) ++ hex_digit (n % 16) ∷ []) (sym e)
