use Rattle.std.proofs.Common.{◌≡◌, ◌++◌, map, drop}
use Rattle.idl_constructs.specs.SeenNodes.{seen_construct, seen_declared}
use Rattle.idl_constructs.proofs.Rests as rests
use Rattle.idl_constructs.proofs.parts.cases_declared.Given as goal

-- what is there, with what is left
abbrev pub invariant-loop-case : goal.invariant-loop-case
invariant-loop-case l =
    map seen_declared l.list.items ++ rests.cases_declared (seen_construct l.construct) (drop l.case-index l.case-items) ≡ rests.cases_declared (seen_construct l.construct) l.case-items
