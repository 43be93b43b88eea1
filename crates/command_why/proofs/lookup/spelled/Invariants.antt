use Rattle.std.proofs.Common.{◌≡◌, ◌++◌, ◌∷◌, map, drop}
use Rattle.std.specs.String.{string_bytes}
use Rattle.command_why.specs.Explained.{spelled, followed}
use Rattle.command_why.proofs.lookup.spelled.Given as goal

-- the words from here on are still to be added
abbrev pub invariant-loop-word : goal.invariant-loop-word
invariant-loop-word l = l.name ++ followed (map string_bytes (drop l.word-index l.rest)) ≡ spelled (l.first ∷ map string_bytes l.rest)
