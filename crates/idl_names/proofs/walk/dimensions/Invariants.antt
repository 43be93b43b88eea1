use Rattle.std.proofs.Common.{◌≡◌, map, option_map}
use Rattle.std.specs.List.{flat_map}
use Rattle.idl_grammar.specs.Seen as seen
use Rattle.idl_scope.specs.Known.{walked}
use Rattle.idl_scope.specs.Steps as steps
use Rattle.idl_names.proofs.Walked.{from}
use Rattle.idl_names.proofs.walk.dimensions.Given as goal

-- the steps of the items that are left come to what those of all come to
abbrev pub invariant-loop-one : goal.invariant-loop-one
invariant-loop-one l =
    walked l.file l.names (from (option_map seen.seen_bound) steps.bound_steps l.one-items l.one-index)
    ≡ walked l.file l.names (flat_map steps.bound_steps (map (option_map seen.seen_bound) l.one-items))
