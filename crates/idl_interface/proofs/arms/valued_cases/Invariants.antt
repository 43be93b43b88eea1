use Rattle.std.proofs.Common.{◌≡◌, ◌++◌, map, drop}
use Rattle.idl_scope.specs.Seen.{known_in}
use Rattle.idl_interface.specs.Made.{seen_valued}
use Rattle.idl_interface.proofs.Making.{cases_left}
use Rattle.idl_interface.proofs.arms.valued_cases.Given as goal

-- what is there, with what is left
abbrev pub invariant-loop-case : goal.invariant-loop-case
invariant-loop-case l = map seen_valued l.list.items ++ cases_left (known_in l.scope) (drop l.case-index l.case-items) ≡ cases_left (known_in l.scope) l.case-items
