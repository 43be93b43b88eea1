use Rattle.std.proofs.Common.{◌∙◌, Some, sym, ap}
use Rattle.idl_declared_types.specs.Kinds.{seen_types}
use Rattle.idl_rule_definitions.specs.DeclarationRules.{is_value_of}
use Rattle.idl_declared_types.proofs.LabelTags.{tag_said}
use Rattle.idl_value_rules.proofs.label_rule.accepted_of.Goals as goal

pub returns : goal.returns
returns c s n is z =
    let ks = c.args.types.now.kinds in
    let t = c.args.typed.now in
    c.accepted_by.ensures s n (seen_types ks) is z
    ∙ ap (λ o. is_value_of s o z) (ap Some c.kind.ensures.seen ∙ sym (tag_said ks t c.if-not-typed.false))
