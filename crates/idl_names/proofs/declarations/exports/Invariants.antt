use Rattle.std.proofs.Common.{◌≡◌, map}
use Rattle.std.specs.List.{flat_map}
use Rattle.idl_grammar.specs.Seen as seen
use Rattle.idl_scope.specs.Known.{walked}
use Rattle.idl_scope.specs.Steps as steps
use Rattle.idl_names.proofs.Walked.{from}
use Rattle.idl_names.proofs.declarations.exports.Given as goal

-- the steps of the items that are left come to what those of all come to
abbrev pub invariant-loop-one : goal.invariant-loop-one
invariant-loop-one l =
    walked l.file l.names (from seen.seen_export (steps.export_steps l.is_main) l.one-items l.one-index)
    ≡ walked l.file l.initial.names (flat_map (steps.export_steps l.is_main) (map seen.seen_export l.one-items))
