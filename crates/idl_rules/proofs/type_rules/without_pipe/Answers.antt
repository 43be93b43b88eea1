use Rattle.std.proofs.Common.{sym, subst, ◌⊎◌, inl, inr}
use Rattle.idl_declared_types.specs.Kinds.{type_at}
use Rattle.idl_rule_definitions.specs.TypeRules.{without_pipe}
use Rattle.idl_constructs.specs.SeenNodes.{seen_position}
use Rattle.idl_value_rules.specs.SeenMarks.{Holds}
use Rattle.idl_rules.proofs.type_rules.without_pipe.Goals as goal

pub returns-in-Typedef : goal.returns-in-Typedef
returns-in-Typedef c s are =
    let of = type_at c.args.judge.now.kinds.now c.args.asked.now.typed.of in
    elim c.in-Typedef.is [
      | inl e ↦ subst (λ p. Holds s (without_pipe (seen_position p) of) c.below_reference.result) (sym e) (c.below_reference.ensures s are)
      | inr e ↦ subst (λ p. Holds s (without_pipe (seen_position p) of) c.below_reference.result) (sym e) (c.below_reference.ensures s are)
    ]
