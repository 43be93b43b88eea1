-- Which octets of an input are read, where it tells them.
use Rattle.std.proofs.Common.{◌≡◌, ℕ, ◌+◌, ◌<◌, ◌≤◌, List, [], ◌++◌, length, Option, Some, None, refl, sym, ◌∙◌, ap, subst, take, arith}
use Rattle.std.proofs.lemmas.Option.{same_Some}
use Rattle.std.proofs.lemmas.List.{append-nil, take_all as take_whole}
use Rattle.std.proofs.lemmas.Bool.{leb-true, leb-false}
use Rattle.std.specs.Prelude.{leb, Bool, true, false}
use Rattle.std.specs.Io.KnownBytes.{Consumes, IsAtEnd}
use Rattle.nd_base.specs.Over.{SourceOver}
use Rattle.command_streams.specs.Input.{AreRead, IsInput, AreGiven}
use Rattle.nd_lemmas.proofs.Lists.{take_front}

-- the octets that were read are those of the input that count
module _ (s : SourceOver) (limit : ℕ) (octets others : List ℕ) (input : IsInput s limit octets) (read : AreRead s limit others) where
  by_length : (ys : List ℕ) → input.all ≡ others ++ ys → (length others < limit + 1 → ys ≡ []) → (t : Bool)
      → leb (limit + 1) (length others) ≡ t → others ≡ octets
  by_length ys whole over true e =
      let low = leb-true (limit + 1) (length others) e in
      let full : length others ≡ limit + 1 = omega (arith, low, read.few) in
      sym (take_front (limit + 1) others ys full) ∙ ap (take (limit + 1)) (sym whole) ∙ sym input.counted
  by_length ys whole over false e =
      let none : ys ≡ [] = over (leb-false (limit + 1) (length others) e) in
      let all : input.all ≡ others = whole ∙ ap (λ u. others ++ u) none ∙ append-nil others in
      sym all ∙ sym (take_whole (limit + 1) input.all (subst (λ xs. length xs ≤ limit + 1) (sym all) read.few)) ∙ sym input.counted

  by_left : (left now : Option (List ℕ)) → left ≡ Some input.all → Consumes left now others → (length others < limit + 1 → IsAtEnd now) → others ≡ octets
  by_left None now e taken none = cc
  by_left (Some xs) None e taken none = absurd taken
  by_left (Some xs) (Some ys) e taken none = by_length ys (sym (same_Some _ _ e) ∙ taken) none (leb (limit + 1) (length others)) refl

  pub same_octets : others ≡ octets
  same_octets = by_left s.left s.left_now input.left read.taken read.none_left

-- octets that were taken are the first of those of the input
pub split_by : (left now : Option (List ℕ)) (octets taken : List ℕ) → left ≡ Some octets → Consumes left now taken
    → (rest : List ℕ) × (now ≡ Some rest) × (octets ≡ taken ++ rest)
split_by None now octets taken e c = cc
split_by (Some xs) None octets taken e c = absurd c
split_by (Some xs) (Some ys) octets taken e c = (ys, refl, sym (same_Some _ _ e) ∙ c)

pub split_input : (s : SourceOver) (octets taken : List ℕ) → AreGiven s octets → Consumes s.left s.left_now taken
    → (rest : List ℕ) × (s.left_now ≡ Some rest) × (octets ≡ taken ++ rest)
split_input s octets taken input c = split_by s.left s.left_now octets taken input.left c
