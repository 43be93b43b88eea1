-- When each octet is needed.
use Rattle.std.specs.Prelude.{◌≡◌, ℕ, List, [], ◌∷◌, ◌++◌, length, Some}
use Rattle.nd_base.specs.declared.octets.Order.{Order}
use Rattle.nd_value.specs.Setting.{Setting}
use Rattle.nd_grammar.specs.declared.reason.Reason.TheVariants as reason
use Rattle.nd_grammar.specs.StreamReader.{read_stream}

-- Without their last octet the reader would find the octets cut short, where they end then: so whoever fetched it fetched what was still lacking.
abbrev pub IsNeeded : Setting → Order → List ℕ → Type 0
IsNeeded w order octets =
    (part : List ℕ) (last : ℕ) → octets ≡ part ++ last ∷ [] → (read_stream w order part).progress.stop ≡ Some (length part, reason.Truncated)
