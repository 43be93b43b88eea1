-- What was read of an input whose octets are known.
use Rattle.std.proofs.Common.{◌≡◌, ℕ, ◌+◌, ◌<◌, ◌≤◌, List, [], ◌++◌, length, take, refl, sym, ◌∙◌, ap, subst, arith}
use Rattle.std.proofs.lemmas.List.{append-nil, length-take-le, take_all as take_whole}
use Rattle.std.specs.Io.KnownBytes.{Consumes, IsAtEnd}
use Rattle.nd_base.specs.Over.{SourceOver}
use Rattle.command_streams.specs.Input.{AreRead, AreGiven}
use Rattle.command_streams.proofs.OneInput.{same_octets, split_input}

module _ (s : SourceOver) (octets : List ℕ) (given : AreGiven s octets) where
  -- up to a limit: its first octets, to one past the limit
  first_octets : (limit : ℕ) (others : List ℕ) → AreRead s limit others → others ≡ take (limit + 1) octets
  first_octets limit others read =
      same_octets s limit (take (limit + 1) octets) others (record { all = octets; left = given.left; counted = refl; reads = given.reads }) read

  -- all of it if the limit allows it
  pub all_octets : (limit : ℕ) (others : List ℕ) → length octets ≤ limit → AreRead s limit others → others ≡ octets
  all_octets limit others few read = first_octets limit others read ∙ take_whole (limit + 1) octets (omega (arith, few))

  -- more than the limit if it has more
  pub many_octets : (limit : ℕ) (others : List ℕ) → limit < length octets → AreRead s limit others → limit < length others
  many_octets limit others many read =
      let is : length others ≡ limit + 1 = ap length (first_octets limit others read) ∙ length-take-le (limit + 1) octets (omega (arith, many)) in
      omega (arith, is)

  -- all of it if nothing is left
  pub whole_octets : (others : List ℕ) → Consumes s.left s.left_now others → IsAtEnd s.left_now → others ≡ octets
  whole_octets others taken none =
      let (rest, now, all) = split_input s octets others given taken in
      let nil : rest ≡ [] = subst IsAtEnd now none in
      sym (all ∙ ap (λ u. others ++ u) nil ∙ append-nil others)
