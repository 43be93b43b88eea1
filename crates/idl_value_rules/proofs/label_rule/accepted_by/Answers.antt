use Rattle.std.proofs.Common.{◌∙◌, Some, sym, ap}
use Rattle.idl_declared_types.specs.Kinds.{type_by}
use Rattle.idl_rule_definitions.specs.DeclarationRules.{is_value_of}
use Rattle.idl_declared_types.proofs.LabelTags.{none_of, in_basic, in_other}
use Rattle.idl_value_rules.proofs.label_rule.accepted_by.Goals as goal

pub returns-in-Some : goal.returns-in-Some
returns-in-Some c s n ts is z = in_basic s _ c.in-Some.primitive z (c.in-Some.ensures ts)

pub returns-in_default-kind : goal.returns-in_default-kind
returns-in_default-kind c s n ts is z =
    in_other s ts c.args.kind z (none_of c.primitive.result c.in_default.not-Some ∙ c.primitive.ensures ts) c.in_default-kind.not-Enum

pub returns : goal.returns
returns c s n ts is z = c.accepted_in.ensures s n is z ∙ ap (λ k. is_value_of s (Some (type_by ts k)) z) (sym c.in-Enum.is)
