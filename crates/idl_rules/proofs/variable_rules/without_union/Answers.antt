use Rattle.std.proofs.Common.{sym, subst, true, false}
use Rattle.idl_declared_types.specs.Kinds.{type_at}
use Rattle.idl_rule_definitions.specs.Scene.{chain}
use Rattle.idl_rule_definitions.specs.VariableRules.{below_pointer}
use Rattle.idl_value_rules.specs.SeenMarks.{Holds}
use Rattle.idl_rules.proofs.variable_rules.without_union.Goals as goal

pub returns-then-is_switched_place : goal.returns-then-is_switched_place
returns-then-is_switched_place c s u are =
    let of = type_at c.args.judge.now.kinds.now c.args.asked.now.typed.of in
    subst (λ b. Holds s (elim b [ true ↦ below_pointer of | false ↦ chain of ]) c.below_pointer.result) c.if-is_switched_place.ensures (c.below_pointer.ensures s are)
