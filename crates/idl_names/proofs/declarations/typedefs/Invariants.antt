use Rattle.std.proofs.Common.{◌≡◌, map}
use Rattle.std.specs.List.{flat_map}
use Rattle.idl_grammar.specs.Seen as seen
use Rattle.idl_scope.specs.Known.{walked}
use Rattle.idl_scope.specs.Steps as steps
use Rattle.idl_names.proofs.Walked.{from}
use Rattle.idl_names.proofs.declarations.typedefs.Given as goal

-- the steps of the items that are left come to what those of all come to
abbrev pub invariant-loop-declarator : goal.invariant-loop-declarator
invariant-loop-declarator l =
    walked l.file l.names (from seen.seen_declarator steps.typedef_steps l.declarator-items l.declarator-index)
    ≡ walked l.file l.initial.names (flat_map steps.typedef_steps (map seen.seen_declarator l.declarator-items))
