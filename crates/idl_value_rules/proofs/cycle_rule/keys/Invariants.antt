use Rattle.std.proofs.Common.{◌≡◌, length}
use Rattle.idl_scope.specs.Seen.{seen_files}
use Rattle.idl_rule_definitions.specs.Scene.{Scene, bodies}
use Rattle.idl_declared_types.specs.SeenTypes.{IsTypes}
use Rattle.idl_declared_types.proofs.PlacesFilled.{Each}
use Rattle.idl_value_rules.proofs.CycleKeys.{KeyAt}
use Rattle.idl_value_rules.proofs.cycle_rule.keys.Given as goal

abbrev pub invariant-loop-body : goal.invariant-loop-body
invariant-loop-body l =
    (length l.keys.items ≡ l.body-index)
    × ((s : Scene) → IsTypes s l.nodes l.types → Each (KeyAt (seen_files l.finder.files.now) (bodies s)) 0 l.keys.items)
