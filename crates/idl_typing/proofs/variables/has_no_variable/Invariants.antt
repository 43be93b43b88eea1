use Rattle.std.proofs.Common.{◌≡◌, ◌∷◌, ◌++◌, map, drop}
use Rattle.std.specs.List.{list_any}
use Rattle.idl_grammar.specs.Seen.{seen_attribute}
use Rattle.idl_rule_definitions.specs.Attributes.{switch_is_word, sizes, lengths}
use Rattle.idl_constructs.specs.SeenNodes.{list_at}
use Rattle.idl_rule_definitions.specs.VariableRules.{variables}
use Rattle.idl_typing.specs.Lookups.{no_other}
use Rattle.idl_typing.proofs.variables.has_no_variable.Given as goal

abbrev pub invariant-loop-attribute : goal.invariant-loop-attribute
invariant-loop-attribute l =
    list_any (no_other (list_at l.nodes.lists.items l.slot.list) l.slot.index) (variables (switch_is_word ∷ sizes ++ lengths) (map seen_attribute l.it.construct.attributes.now))
    ≡ list_any (no_other (list_at l.nodes.lists.items l.slot.list) l.slot.index)
    (variables (switch_is_word ∷ sizes ++ lengths) (map seen_attribute (drop l.attribute-index l.it.construct.attributes.now)))
