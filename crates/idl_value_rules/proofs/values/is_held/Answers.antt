use Rattle.std.proofs.Common.{◌∙◌, [], ap, rules}
use Rattle.std.proofs.lemmas.Int.{to_z-of_z}
use mir.Val.{SFits}
use mir.Syntax.{w128}
use Rattle.nd_types.specs.Table.{in_range}
use Rattle.idl_rule_definitions.specs.Types.{simple_type}
use Rattle.idl_declared_types.specs.Kinds.{basic_in}
use Rattle.idl_value_rules.proofs.ValueNotes.{held_some, held_none}
use Rattle.idl_value_rules.proofs.values.is_held.Goals as goal

pub returns-in-Some : goal.returns-in-Some
returns-in-Some c =
    let fits : SFits w128 c.args.value = search rules in
    c.is_in_range.ensures ∙ ap (in_range c.in-Some.primitive) (to_z-of_z w128 c.args.value fits)
    ∙ held_some (simple_type c.args.of) c.in-Some.primitive c.args.value (c.in-Some.ensures [] ∙ ap basic_in (c.simple_kind.ensures.seen []))

pub returns-in-None : goal.returns-in-None
returns-in-None c = held_none (simple_type c.args.of) c.args.value (c.in-None.ensures [] ∙ ap basic_in (c.simple_kind.ensures.seen []))
