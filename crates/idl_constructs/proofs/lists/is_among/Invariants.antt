use Rattle.std.proofs.Common.{◌≡◌}
use Rattle.std.specs.Str.{bytes_eq}
use Rattle.idl_constructs.specs.Spelled.{spelled}
use Rattle.idl_constructs.specs.ListBreaches.{is_among}
use Rattle.idl_constructs.proofs.AnyFrom.{any_from}
use Rattle.idl_constructs.proofs.lists.is_among.Given as goal

-- the word is among those that are left, or among none
abbrev pub invariant-loop-one : goal.invariant-loop-one
invariant-loop-one l = any_from (λ w. w) (λ w. bytes_eq (spelled l.word) (spelled w)) l.words l.one-index ≡ is_among (spelled l.word) l.words
