-- What was taken of a source whose octets are known, and what it has left.
use Rattle.std.proofs.Common.{◌≡◌, ◌∙◌, ℕ, List, [], ◌++◌, Option, Some, None, refl, sym}
use Rattle.std.specs.Io.KnownBytes.{Consumes, IsAtEnd}
use Rattle.std.proofs.lemmas.Option.{same_Some}

-- what follows the octets that were taken
abbrev pub rest_of : Option (List ℕ) → List ℕ
rest_of None = []
rest_of (Some octets) = octets

pub parts_of : (left left_now : Option (List ℕ)) (front octets : List ℕ) → left ≡ Some octets → Consumes left left_now front → octets ≡ front ++ rest_of left_now
parts_of None left_now front octets same taken = cc
parts_of (Some all) None front octets same taken = absurd taken
parts_of (Some all) (Some rest) front octets same taken = sym (same_Some _ _ same) ∙ taken

pub none_left : (left_now : Option (List ℕ)) → IsAtEnd left_now → rest_of left_now ≡ []
none_left None ended = refl
none_left (Some rest) ended = ended
