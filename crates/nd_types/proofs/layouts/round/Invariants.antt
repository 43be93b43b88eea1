use Rattle.std.proofs.Common.{◌≡◌, ◌++◌, map, drop}
use Rattle.nd_types.specs.Rounds.{layout_by}
use Rattle.nd_types.proofs.layouts.round.Given as goal

-- what is there, with what is left
abbrev pub invariant-loop-definition : goal.invariant-loop-definition
invariant-loop-definition l = l.next.items ++ map (layout_by l.types l.layouts) (drop l.definition-index l.types) ≡ map (layout_by l.types l.layouts) l.types
