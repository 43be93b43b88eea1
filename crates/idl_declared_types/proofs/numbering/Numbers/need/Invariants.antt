use Rattle.std.proofs.Common.{◌≡◌, List, map, length}
use Rattle.idl_rule_definitions.specs.Nodes.{Construct, place_in}
use Rattle.idl_rule_definitions.specs.Numbering.{Needed, needed, built}
use Rattle.idl_declared_types.specs.Kinds.{type_at}
use Rattle.idl_declared_types.specs.SeenNumbers.{Shows, IsClosed, grown}
use Rattle.idl_declared_types.proofs.Numbered.{Going}
use Rattle.idl_declared_types.proofs.numbering.Numbers.need.Given as goal

abbrev pub decreases-loop-kind : goal.decreases-loop-kind
decreases-loop-kind l = length l.path.items

abbrev pub invariant-loop-kind : goal.invariant-loop-kind
invariant-loop-kind l = (firsts : List Needed) (c : Construct) → l.place ≡ place_in c c.at → Shows l.kinds firsts l.fn.self → IsClosed firsts
    → Going l.kinds c (grown firsts (map (needed c) (built (type_at l.kinds l.of)))) l.self l.path.items
