use Rattle.std.proofs.Common.{◌≡◌, ◌++◌, map, drop}
use Rattle.nd_types.specs.Rounds.{unknown}
use Rattle.nd_types.proofs.layouts.unknown_layouts.Given as goal

-- what is there, with what is left
abbrev pub invariant-loop-definition : goal.invariant-loop-definition
invariant-loop-definition l = l.layouts.items ++ map unknown (drop l._definition-index l.types) ≡ map unknown l.types
