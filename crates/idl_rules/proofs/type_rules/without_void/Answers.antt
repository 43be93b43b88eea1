use Rattle.std.proofs.Common.{sym, subst}
use Rattle.idl_declared_types.specs.Kinds.{type_at}
use Rattle.idl_rule_definitions.specs.TypeRules.{without_void}
use Rattle.idl_constructs.specs.SeenNodes.{seen_position}
use Rattle.idl_value_rules.specs.SeenMarks.{Holds}
use Rattle.idl_rules.proofs.type_rules.without_void.Goals as goal

pub returns-in-Operation : goal.returns-in-Operation
returns-in-Operation c s are =
    subst (λ p. Holds s (without_void (seen_position p) (type_at c.args.judge.now.kinds.now c.args.asked.now.typed.of)) c.below.result)
    (sym c.in-Operation.is) (c.below.ensures s are)
