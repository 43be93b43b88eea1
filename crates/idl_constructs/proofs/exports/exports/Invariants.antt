use Rattle.std.proofs.Common.{drop}
use Rattle.idl_constructs.specs.declared.nodes.Nodes.{Nodes}
use Rattle.idl_constructs.specs.SeenNodes.{seen_construct}
use Rattle.idl_constructs.specs.Growing.{Adds}
use Rattle.idl_constructs.proofs.Rests as rests
use Rattle.idl_constructs.proofs.exports.exports.Given as goal

-- whatever is added by what is left, all is added
abbrev pub invariant-loop-one : goal.invariant-loop-one
invariant-loop-one l =
    (end : Nodes) → Adds l.nodes end (rests.exports_from l.is_main (seen_construct l.header) (drop l.one-index l.exports))
    → Adds l.initial.nodes end (rests.exports_from l.is_main (seen_construct l.header) l.exports)
