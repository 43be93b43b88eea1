use Rattle.std.proofs.Common.{◌≡◌, drop}
use Rattle.idl_constructs.specs.declared.nodes.Nodes.{Nodes}
use Rattle.idl_constructs.specs.SeenNodes.{seen_construct}
use Rattle.idl_constructs.specs.Growing.{AddsOf}
use Rattle.idl_constructs.proofs.Rests as rests
use Rattle.idl_constructs.proofs.exports.parameters.Given as goal

-- whatever is added by what is left, all is added
abbrev pub invariant-loop-one : goal.invariant-loop-one
invariant-loop-one l = record {
  next : l.index ≡ l.one-index;
  adds : (end : Nodes) → AddsOf l.nodes end l.list (λ all. rests.parameters_from (seen_construct l.construct) all l.index (drop l.one-index l.parameters))
      → AddsOf l.initial.nodes end l.list (λ all. rests.parameters_from (seen_construct l.construct) all 0 l.parameters);
}
