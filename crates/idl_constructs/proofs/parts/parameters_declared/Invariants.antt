use Rattle.std.proofs.Common.{◌≡◌, ◌++◌, map, drop}
use Rattle.idl_constructs.specs.SeenNodes.{seen_construct, seen_declared}
use Rattle.idl_constructs.proofs.Rests as rests
use Rattle.idl_constructs.proofs.parts.parameters_declared.Given as goal

-- what is there, with what is left
abbrev pub invariant-loop-parameter : goal.invariant-loop-parameter
invariant-loop-parameter l =
    map seen_declared l.list.items ++ rests.parameters_declared (seen_construct l.construct) (drop l.parameter-index l.parameters) ≡ rests.parameters_declared (seen_construct l.construct) l.parameters
