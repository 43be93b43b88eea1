use Rattle.std.proofs.Common.{◌≡◌, ◌+◌, drop, length}
use Rattle.idl_constructs.specs.declared.nodes.Nodes.{Nodes}
use Rattle.idl_constructs.specs.SeenNodes.{seen_construct}
use Rattle.idl_constructs.specs.Growing.{Adds, AddsOf}
use Rattle.idl_constructs.proofs.Rests as rests
use Rattle.idl_constructs.proofs.walk.+walk.Given as goal

-- whatever is added by what is left, all is added
abbrev pub invariant-members-loop-one : goal.invariant-members-loop-one
invariant-members-loop-one l = record {
  count : l.index + length (rests.members_declared (seen_construct l.construct) (drop l.one-index l.one-items)) ≡ length (rests.members_declared (seen_construct l.construct) l.one-items);
  adds : (end : Nodes) → AddsOf l.nodes end l.number (λ all. rests.members_from (seen_construct l.construct) all l.index (drop l.one-index l.one-items))
      → AddsOf l.initial.nodes end l.number (λ all. rests.members_from (seen_construct l.construct) all 0 l.one-items);
}

-- whatever is added by what is left, all is added
abbrev pub invariant-cases-loop-one : goal.invariant-cases-loop-one
invariant-cases-loop-one l =
    (end : Nodes) → Adds l.nodes end (rests.cases_from (seen_construct l.construct) (drop l.one-index l.one-items))
    → Adds l.initial.nodes end (rests.cases_from (seen_construct l.construct) l.one-items)

-- whatever is added by what is left, all is added
abbrev pub invariant-arms-loop-one : goal.invariant-arms-loop-one
invariant-arms-loop-one l =
    (end : Nodes) → Adds l.nodes end (rests.arms_from (seen_construct l.construct) (drop l.one-index l.one-items)) → Adds l.initial.nodes end (rests.arms_from (seen_construct l.construct) l.one-items)
