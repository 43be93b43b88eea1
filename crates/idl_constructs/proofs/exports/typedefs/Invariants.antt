use Rattle.std.proofs.Common.{drop}
use Rattle.idl_grammar.specs.Seen.{seen_type}
use Rattle.idl_constructs.specs.declared.nodes.Nodes.{Nodes}
use Rattle.idl_constructs.specs.SeenNodes.{seen_construct}
use Rattle.idl_constructs.specs.Growing.{Adds}
use Rattle.idl_constructs.proofs.Rests as rests
use Rattle.idl_constructs.proofs.exports.typedefs.Given as goal

-- whatever is added by what is left, all is added
abbrev pub invariant-loop-declarator : goal.invariant-loop-declarator
invariant-loop-declarator l =
    (end : Nodes) → Adds l.nodes end (rests.typedefs_from (seen_construct l.construct) l.pipe (seen_type l.of) (drop l.declarator-index l.declarators))
    → Adds l.initial.nodes end (rests.typedefs_from (seen_construct l.construct) l.pipe (seen_type l.of) l.declarators)
