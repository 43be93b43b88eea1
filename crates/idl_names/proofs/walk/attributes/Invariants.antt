use Rattle.std.proofs.Common.{◌≡◌, map}
use Rattle.std.specs.List.{flat_map}
use Rattle.idl_grammar.specs.Seen as seen
use Rattle.idl_scope.specs.Known.{walked}
use Rattle.idl_scope.specs.Steps as steps
use Rattle.idl_names.proofs.Walked.{from}
use Rattle.idl_names.proofs.walk.attributes.Given as goal

-- the steps of the items that are left come to what those of all come to
abbrev pub invariant-loop-one : goal.invariant-loop-one
invariant-loop-one l =
    walked l.file l.names (from seen.seen_attribute (λ x. steps.kind_steps x.kind) l.one-items l.one-index)
    ≡ walked l.file l.names (flat_map (λ x. steps.kind_steps x.kind) (map seen.seen_attribute l.one-items))
