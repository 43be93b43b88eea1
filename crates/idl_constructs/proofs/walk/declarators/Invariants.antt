use Rattle.std.proofs.Common.{◌≡◌, ◌+◌, drop}
use Rattle.idl_grammar.specs.Seen.{seen_type}
use Rattle.idl_constructs.specs.declared.nodes.Nodes.{Nodes}
use Rattle.idl_constructs.specs.SeenNodes.{seen_construct}
use Rattle.idl_constructs.specs.Growing.{AddsOf}
use Rattle.idl_constructs.proofs.Rests as rests
use Rattle.idl_constructs.proofs.walk.declarators.Given as goal

-- whatever is added by what is left, all is added
abbrev pub invariant-loop-declarator : goal.invariant-loop-declarator
invariant-loop-declarator l = record {
  next : l.index ≡ l.first + l.declarator-index;
  adds : (end : Nodes) → AddsOf l.nodes end l.list (λ all. rests.declarators_from (seen_construct l.construct) (seen_type l.of) all l.index (drop l.declarator-index l.declarators))
      → AddsOf l.initial.nodes end l.list (λ all. rests.declarators_from (seen_construct l.construct) (seen_type l.of) all l.first l.declarators);
}
