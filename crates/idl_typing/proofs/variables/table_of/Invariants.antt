use Rattle.std.proofs.Common.{◌≡◌, ℕ, List, map, take, option_map}
use Rattle.idl_scope.specs.Known.{found}
use Rattle.idl_constructs.specs.SeenNodes.{seen_declared}
use Rattle.idl_rule_definitions.specs.VariableRules.{listed_from}
use Rattle.idl_typing.proofs.variables.table_of.Given as goal

abbrev pub invariant-loop-index : goal.invariant-loop-index
invariant-loop-index l = (name : List ℕ) → found name l.table ≡ option_map (λ d. d.index) (listed_from 0 (map seen_declared (take l.index l.list)) name)
