use Rattle.std.proofs.Common.{◌≡◌, ◌∙◌, ap, sym, subst}
use Rattle.idl_rule_definitions.specs.Scene.{below}
use Rattle.idl_rule_definitions.specs.VariableRules.{below_pointer}
use Rattle.idl_declared_types.specs.Kinds.{seen_types}
use Rattle.idl_value_rules.specs.SeenMarks.{Holds}
use Rattle.idl_value_rules.proofs.Below.{pointee_below, no_pointee_below}
use Rattle.idl_rules.proofs.asked.Judge.below_pointer.Goals as goal

pub returns-in-Some : goal.returns-in-Some
returns-in-Some c s are =
    subst (λ ts. Holds s ts c.below.result)
    (sym (ap below_pointer (sym c.kind.ensures) ∙ pointee_below (seen_types c.args.self.now.kinds.now) c.kind.result c.in-Some.to c.in-Some.ensures))
    (c.below.ensures s are)

pub returns-in-None : goal.returns-in-None
returns-in-None c s are =
    subst (λ ts. Holds s ts c.below-in-None.result)
    (sym (ap below_pointer (sym c.kind.ensures) ∙ no_pointee_below (seen_types c.args.self.now.kinds.now) c.kind.result c.in-None.ensures ∙ ap below c.kind.ensures))
    (c.below-in-None.ensures s are)
