use Rattle.std.proofs.Common.{◌≡◌, drop, option_map, None}
use Rattle.idl_scope.specs.Known.{walked}
use Rattle.idl_names.proofs.Rests as rests
use Rattle.idl_names.proofs.types.enumerators.Given as goal

-- the steps of what is left come to what those of all come to
abbrev pub invariant-loop-one : goal.invariant-loop-one
invariant-loop-one l =
    walked l.file l.names (rests.enumerators_from (option_map (λ s. s.now) l.previous) (drop l.one-index l.one-items)) ≡ walked l.file l.initial.names (rests.enumerators_from None l.one-items)
