-- A name that is added octet by octet.
use Rattle.std.proofs.Common.{◌≡◌, ℕ, List, [], ◌∷◌, ◌++◌, ap, sym, ◌∙◌, append-nil, append_assoc, refl}
use Rattle.nd_base.specs.NameLists.{with_octet}

abbrev pub with_octets : List ℕ → List (List ℕ) → List (List ℕ)
with_octets [] names = names
with_octets (octet ∷ octets) names = with_octets octets (with_octet octet names)

pub last_grows : (octet : ℕ) (names : List (List ℕ)) (name : List ℕ) → with_octet octet (names ++ name ∷ []) ≡ names ++ (name ++ octet ∷ []) ∷ []
last_grows octet [] name = refl
last_grows octet (first ∷ []) name = refl
last_grows octet (first ∷ next ∷ names) name = ap (λ ns. first ∷ ns) (last_grows octet (next ∷ names) name)

grown : (octets : List ℕ) (names : List (List ℕ)) (name : List ℕ) → with_octets octets (names ++ name ∷ []) ≡ names ++ (name ++ octets) ∷ []
grown [] names name = ap (λ n. names ++ n ∷ []) (sym (append-nil name))
grown (octet ∷ octets) names name =
    ap (with_octets octets) (last_grows octet names name) ∙ (grown octets names (name ++ octet ∷ []) ∙ ap (λ n. names ++ n ∷ []) (append_assoc name (octet ∷ []) octets))

-- all octets of a name, at the end of an empty one
pub all_added : (octets : List ℕ) (names : List (List ℕ)) → with_octets octets (names ++ [] ∷ []) ≡ names ++ octets ∷ []
all_added octets names = grown octets names []
