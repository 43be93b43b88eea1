-- Octets that are added one by one.
use Rattle.std.proofs.Common.{◌≡◌, ℕ, List, [], ◌∷◌, ◌++◌, sym, ◌∙◌, append-nil, append_assoc}

abbrev pub with_octets : List ℕ → List ℕ → List ℕ
with_octets [] seen = seen
with_octets (octet ∷ octets) seen = with_octets octets (seen ++ octet ∷ [])

pub all_added : (octets seen : List ℕ) → with_octets octets seen ≡ seen ++ octets
all_added [] seen = sym (append-nil seen)
all_added (octet ∷ octets) seen = all_added octets (seen ++ octet ∷ []) ∙ append_assoc seen (octet ∷ []) octets

-- a line and then its line feed
pub line_added : (octets line : List ℕ) → (octets ++ line) ++ 10 ∷ [] ≡ octets ++ (line ++ 10 ∷ [])
line_added octets line = append_assoc octets line (10 ∷ [])
